use Rattle.std.proofs.Common.{length}
use Rattle.hd_value.proofs.locator.+intersects_at.Given as goal

abbrev pub decreases-intersects_at : goal.decreases-intersects_at
decreases-intersects_at l = length l.elements.now
