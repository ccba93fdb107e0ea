use Rattle.std.proofs.Common.{length}
use Rattle.hd_instancing.proofs.table.+instancers_of.Given as goal

abbrev pub decreases-instancers_of : goal.decreases-instancers_of
decreases-instancers_of l = length l.path.now
