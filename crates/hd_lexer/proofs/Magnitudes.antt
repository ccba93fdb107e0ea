-- Digits that are read no further than the limit.
use Rattle.std.proofs.Common.{◌≡◌, ℕ, ◌+◌, ◌*◌, ◌-◌, ◌<◌, ◌≤◌, min, List, [], ◌∷◌, length, drop, get_or, refl, sym, ap, ◌∙◌, arith, add-one, drop-cons, inl, inr}
use Rattle.std.proofs.Math.Nat.{eq-or-lt_of_le, min-eq_left, min-eq_right}
use Rattle.std.proofs.lemmas.Bool.{cases_lt}
use Rattle.std.specs.Cmp.{nat_cmp_is}
use Rattle.std.specs.Ordering.{nat_cmp, ord_min}
use Rattle.std.specs.declared.cmp.Ordering.TheVariants.{Less, Equal, Greater}
use Rattle.hd_lexer.specs.Decimals.{digits_from}

grows : (n : ℕ) (ds : List ℕ) → n ≤ digits_from n ds
grows n [] = omega arith
grows n (d ∷ ds) = let h = grows (10 * n + (d - 48)) ds in omega arith

-- a number that passed the bound stays beyond it, whatever else is read
pub bounded_digits : (n bound : ℕ) (ds : List ℕ) → min (digits_from (min n bound) ds) bound ≡ min (digits_from n ds) bound
bounded_digits n bound ds = elim (cases_lt bound n) [ inl h ↦ beyond h | inr h ↦ ap (λ m. min (digits_from m ds) bound) (min-eq_left h) ]
  where
    beyond : bound < n → min (digits_from (min n bound) ds) bound ≡ min (digits_from n ds) bound
    beyond h =
        let cut : min n bound ≡ bound = min-eq_right (omega arith) in
        let low = grows bound ds in
        let high = grows n ds in
        ap (λ m. min (digits_from m ds) bound) cut ∙ min-eq_right low ∙ sym (min-eq_right (omega arith))

pub one_digit : (n : ℕ) (ds : List ℕ) (i : ℕ) → i < length ds → digits_from (10 * n + (get_or ds i 0 - 48)) (drop (i + 1) ds) ≡ digits_from n (drop i ds)
one_digit n ds i some = rw (add-one i, drop-cons ds i 0) refl

-- std's least of two numbers is the logic's
pub ord_min-is_min : (a b : ℕ) → ord_min nat_cmp a b ≡ min a b
ord_min-is_min a b = elim (cases_lt b a) [
  | inl h ↦ (let less : Less ≡ nat_cmp b a = nat_cmp_is b a Less h in rw (← less) (sym (min-eq_right (omega arith))))
  | inr h ↦ elim (eq-or-lt_of_le h) [
    | inl e ↦ (let same : Equal ≡ nat_cmp b a = nat_cmp_is b a Equal (sym e) in rw (← same) (sym (min-eq_left h)))
    | inr l ↦ (let more : Greater ≡ nat_cmp b a = nat_cmp_is b a Greater l in rw (← more) (sym (min-eq_left h)))
  ]
]
