use Rattle.std.proofs.Common.{length}
use Rattle.hd_flattening.proofs.flattening.+inherited_at.Given as goal

abbrev pub decreases-inherited_at : goal.decreases-inherited_at
decreases-inherited_at g l = length l.path.now
