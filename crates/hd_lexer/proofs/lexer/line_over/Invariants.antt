use Rattle.std.proofs.Common.{◌≡◌, drop}
use Rattle.hd_lexer.specs.Lexing.{line_over}
use Rattle.hd_lexer.proofs.lexer.line_over.Given as goal

abbrev pub invariant-loop-b : goal.invariant-loop-b
invariant-loop-b l = line_over l.at (drop l.b-index l.bytes) ≡ line_over l.line l.bytes
