use Rattle.std.proofs.Common.{refl}
use Rattle.hd_num.specs.Matrices.{in_range}
use Rattle.hd_num.proofs.matrix.Matrix.identity.Goals as goal

pub invariant_of-result : goal.invariant_of-result
unfolding in_range
invariant_of-result c = record { shaped = refl; within = refl }
