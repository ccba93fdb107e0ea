use Rattle.std.proofs.Common.{length}
use Rattle.hd_tokens.proofs.properties.+op_kind_among.Given as goal

abbrev pub decreases-op_kind_among : goal.decreases-op_kind_among
decreases-op_kind_among l = length l.kinds.now
