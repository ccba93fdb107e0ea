use Rattle.std.proofs.Common.{length}
use Rattle.hd_value.proofs.container.+is_free_after.Given as goal

abbrev pub decreases-is_free_after : goal.decreases-is_free_after
decreases-is_free_after l = length l.tokens.now
