use Rattle.std.proofs.Common.{◌≡◌, ◌≤◌, ◌+◌, ◌*◌, drop}
use Rattle.hd_lexer.specs.Exact.{sum_from}
use Rattle.hd_lexer.proofs.exact.sum_from.Given as goal

abbrev pub invariant-loop-b : goal.invariant-loop-b
invariant-loop-b l = record {
  same : sum_from l.sum (drop l.b-index l.digits) ≡ sum_from l.before l.digits;
  bound : l.sum ≤ l.before + 256 * l.b-index;
}
