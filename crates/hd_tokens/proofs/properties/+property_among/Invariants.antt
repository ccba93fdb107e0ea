use Rattle.std.proofs.Common.{length}
use Rattle.hd_tokens.proofs.properties.+property_among.Given as goal

abbrev pub decreases-property_among : goal.decreases-property_among
decreases-property_among l = length l.properties.now
