use Rattle.std.proofs.Common.{◌≡◌, ◌≤◌, drop, min}
use Rattle.hd_lexer.specs.Decimals.{digits_from}
use Rattle.hd_lexer.proofs.decimal.magnitude.Given as goal

abbrev pub invariant-loop-b : goal.invariant-loop-b
invariant-loop-b l = record {
  same : min (digits_from l.n (drop l.b-index l.digits)) l.beyond ≡ min (digits_from 0 l.digits) l.beyond;
  bound : l.n ≤ l.beyond;
}
