use Rattle.std.proofs.Common.{false, length, arith}
use Rattle.hd_lexer.proofs.Cutting.{are_tokens}
use Rattle.hd_lexer.proofs.laws.tokens_are_the_text.Goals as goal

pub returns : goal.returns
returns c line text = are_tokens (length text) line false text (omega arith)
