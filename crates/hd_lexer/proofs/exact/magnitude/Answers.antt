use Rattle.std.proofs.Common.{◌∙◌, ap, ◌≡◌, ◌+◌, ◌*◌, ◌-◌, ◌^◌, get_or, arith, min, ℕ, drop}
use Rattle.std.proofs.Math.Nat.{min-le_right}
use Rattle.hd_lexer.proofs.Magnitudes.{bounded_digits, one_digit, ord_min-is_min}
use Rattle.hd_lexer.proofs.exact.magnitude.Goals as goal

pub loop-b-preserved : goal.loop-b-preserved
loop-b-preserved c =
    let d = get_or c.args.digits.now c.loop-b.b-index 0 in
    let beyond = 2 ^ 66 in
    let next : ℕ = 10 * c.loop-b.n + (d - 48) in
    let is : c.min-n.result ≡ min next beyond = c.min-n.ensures ∙ ord_min-is_min _ beyond ∙ ap (λ x. min (10 * c.loop-b.n + x) beyond) (c.from.ensures ∙ c.saturating_sub.ensures) in
    rw is (record {
      same = bounded_digits next beyond (drop (c.loop-b.b-index + 1) c.args.digits.now) ∙ ap (λ m. min m beyond) (one_digit c.loop-b.n c.args.digits.now c.loop-b.b-index (omega arith)) ∙ c.loop-b.invariant.same;
      bound = min-le_right next beyond;
    })
