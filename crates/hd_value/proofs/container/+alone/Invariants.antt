use Rattle.std.proofs.Common.{◌+◌, ◌*◌, length}
use Rattle.hd_value.proofs.container.+alone.Given as goal

abbrev pub decreases-container_with : goal.decreases-container_with
decreases-container_with l = 2 * length l.rest.now + 1

abbrev pub decreases-source_of : goal.decreases-source_of
decreases-source_of l = 2 * length l.rest.now
