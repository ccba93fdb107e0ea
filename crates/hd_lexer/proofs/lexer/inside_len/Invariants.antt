use Rattle.std.proofs.Common.{◌≡◌, drop, false}
use Rattle.hd_lexer.specs.Lexing.{inside_from}
use Rattle.hd_lexer.specs.inner.Scanned.{quoting_view}
use Rattle.hd_lexer.proofs.lexer.inside_len.Given as goal

abbrev pub invariant-loop-i : goal.invariant-loop-i
invariant-loop-i l = inside_from (quoting_view l.how) l.escaped l.i (drop l.i l.bytes) ≡ inside_from (quoting_view l.how) false 0 l.bytes
