use Rattle.std.proofs.Common.{arith, ◌≡◌, false, true, refl, subst, sym, neg_ℤ, pos, ◌-ℤ◌}
use Rattle.std.proofs.lemmas.Int.{ints}
use Rattle.hd_picture.specs.declared.define.coverage.Weights.{Weights}
use Rattle.hd_picture.specs.inner.Coverage.{IsCounterClockwise, IsCounterClockwiseOf, IsSmall}
use Rattle.hd_picture.proofs.CoverageLemmas.{counter_clockwise_itself, counter_clockwise_negated, not_counter_clockwise, negate_weights}
use Rattle.hd_picture.proofs.CrossProduct.{read}
use Rattle.hd_picture.proofs.define.coverage.counter_clockwise_of.Goals as goal

-- the weights with all signs negated, as the code has them
abbrev as_read : Weights → Weights
as_read w = record { a = read (pos 0 -ℤ read w.a); b = read (pos 0 -ℤ read w.b); c = read (pos 0 -ℤ read w.c) }

negated : (w : Weights) → IsSmall w → as_read w ≡ negate_weights w
negated w small =
    let a : read (pos 0 -ℤ read w.a) ≡ neg_ℤ w.a = omega (arith, ints) in
    let b : read (pos 0 -ℤ read w.b) ≡ neg_ℤ w.b = omega (arith, ints) in
    let c : read (pos 0 -ℤ read w.c) ≡ neg_ℤ w.c = omega (arith, ints) in
    rw (a, b, c)

by_negated : (w v : Weights) → v ≡ negate_weights w → IsCounterClockwise v → IsCounterClockwiseOf w v
by_negated w v e h =
    let P : Weights → Type 0 = λ x. IsCounterClockwiseOf w x in
    subst P (sym e) (counter_clockwise_negated w (subst IsCounterClockwise e h))

pub returns-then-is_counter_clockwise : goal.returns-then-is_counter_clockwise
returns-then-is_counter_clockwise c = counter_clockwise_itself c.args.w (c.if-is_counter_clockwise.ensures.0 refl)

pub returns-then-is_counter_clockwise-2 : goal.returns-then-is_counter_clockwise-2
returns-then-is_counter_clockwise-2 c = by_negated c.args.w (as_read c.args.w) (negated c.args.w c.requires) (c.if-is_counter_clockwise-2.ensures.0 refl)

pub returns-else-is_counter_clockwise-2 : goal.returns-else-is_counter_clockwise-2
returns-else-is_counter_clockwise-2 c =
    not_counter_clockwise c.args.w c.requires
    (λ h. let e : false ≡ true = c.if-is_counter_clockwise.ensures.1 h in cc)
    (λ h. let e : false ≡ true = c.if-is_counter_clockwise-2.ensures.1 (subst IsCounterClockwise (sym (negated c.args.w c.requires)) h) in cc)
