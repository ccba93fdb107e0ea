use Rattle.std.proofs.Common.{◌≡◌, ◌≤◌, ◌+◌, drop}
use Rattle.hd_lexer.specs.Exact.{zeros_from}
use Rattle.hd_lexer.proofs.exact.zeros_from.Given as goal

abbrev pub invariant-loop-b : goal.invariant-loop-b
invariant-loop-b l = record {
  same : zeros_from l.zeros (drop l.b-index l.digits) ≡ zeros_from l.before l.digits;
  bound : l.zeros ≤ l.before + l.b-index;
}
