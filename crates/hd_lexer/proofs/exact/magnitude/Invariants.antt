use Rattle.std.proofs.Common.{◌≡◌, ◌≤◌, ◌^◌, drop, min}
use Rattle.hd_lexer.specs.Decimals.{digits_from}
use Rattle.hd_lexer.proofs.exact.magnitude.Given as goal

abbrev pub invariant-loop-b : goal.invariant-loop-b
invariant-loop-b l = record {
  same : min (digits_from l.n (drop l.b-index l.digits)) (2 ^ 66) ≡ min (digits_from 0 l.digits) (2 ^ 66);
  bound : l.n ≤ 2 ^ 66;
}
