use Rattle.std.proofs.Common.{length}
use Rattle.hd_dirty.proofs.kinds.+reached_bits.Given as goal

abbrev pub decreases-reached_bits : goal.decreases-reached_bits
decreases-reached_bits l = length l.groups.now
