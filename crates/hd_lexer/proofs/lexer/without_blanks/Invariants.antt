use Rattle.std.proofs.Common.{◌≡◌, length}
use Rattle.hd_lexer.specs.Lexing.{tokens_from}
use Rattle.hd_lexer.proofs.lexer.without_blanks.Given as goal

abbrev pub invariant-loop-rest : goal.invariant-loop-rest
invariant-loop-rest l = tokens_from l.at l.rest ≡ tokens_from l.line l.bytes

abbrev pub decreases-loop-rest : goal.decreases-loop-rest
decreases-loop-rest l = length l.rest
