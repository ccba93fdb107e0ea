use Rattle.std.proofs.Common.{length}
use Rattle.hd_value.proofs.container.+look.Given as goal

abbrev pub decreases-look : goal.decreases-look
decreases-look g l = length l.tokens.now
