use Rattle.std.proofs.Common.{length}
use Rattle.hd_dirty.proofs.kinds.+bits_of_groups.Given as goal

abbrev pub decreases-bits_of_groups : goal.decreases-bits_of_groups
decreases-bits_of_groups l = length l.groups.now
