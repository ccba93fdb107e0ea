use Rattle.std.proofs.Common.{◌+◌, ◌*◌, length}
use Rattle.hd_value.proofs.container.+put.Given as goal

abbrev pub decreases-put : goal.decreases-put
decreases-put l = 3 * length l.rest.now + 2

abbrev pub decreases-put_in : goal.decreases-put_in
decreases-put_in l = 3 * length l.rest.now + 1

abbrev pub decreases-put_at : goal.decreases-put_at
decreases-put_at l = 3 * length l.rest.now
