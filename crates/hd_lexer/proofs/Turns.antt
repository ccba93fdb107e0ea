-- A number of whole turns by its digits: nine divides it where it divides the sum of its digits, and ten where the last digit is 0.
use Rattle.std.proofs.Common.{◌≡◌, ℕ, zero, suc, ◌+◌, ◌-◌, ◌*◌, ◌%◌, ◌<◌, ◌≤◌, inl, inr, Bool, true, false, ◌&&◌, not, ◌==◌, if◌then◌else◌, nat_le, List, [], ◌∷◌, length, pos, neg_ℤ, unsigned_abs, refl, sym, ap, ◌∙◌, arith}
use Rattle.std.proofs.lemmas.Bool.{and_parts, or_cases, or_parts, eqb-true, eq-eqb, leb-true, not-false}
use Rattle.std.specs.List.{list_all}
use Rattle.hd_lexer.specs.Lexing.{begins}
use Rattle.hd_lexer.specs.Decimals.{Decimal, is_zero_digit, digits_from, amount, is_fractional}
use Rattle.hd_lexer.specs.Exact.{after_point, is_zero, sum_from, digit_sum, zeros_from, last_zeros, places_left, places_right, is_turn}

nine_step : (n m k : ℕ) → n % 9 ≡ m % 9 → (10 * n + k) % 9 ≡ (m + k) % 9
nine_step n m k h = omega arith

pub nines : (n m : ℕ) (ds : List ℕ) → n % 9 ≡ m % 9 → digits_from n ds % 9 ≡ sum_from m ds % 9
nines n m [] h = h
nines n m (d ∷ ds) h = nines (10 * n + (d - 48)) (m + (d - 48)) ds (nine_step n m (d - 48) h)

ten_step : (n d : ℕ) → d ≡ 48 → (10 * n + (d - 48)) % 10 ≡ 0
ten_step n d e = omega arith

tens : (n z : ℕ) (ds : List ℕ) → (0 < z → n % 10 ≡ 0) → 0 < zeros_from z ds → digits_from n ds % 10 ≡ 0
tens n z [] h some = h some
tens n z (d ∷ ds) h some = tens (10 * n + (d - 48)) (if d == 48 then z + 1 else 0) ds (last (d == 48) refl) some
  where
    last : (b : Bool) → (d == 48) ≡ b → 0 < (if b then z + 1 else 0) → (10 * n + (d - 48)) % 10 ≡ 0
    last true e lt = ten_step n d (eqb-true d 48 e)
    last false e lt = absurd (omega arith)

zero_digit : (d : ℕ) → is_zero_digit d ≡ true → d - 48 ≡ 0
zero_digit d e = let same : d ≡ 48 = eqb-true d 48 e in omega arith

no_sum : (m : ℕ) (ds : List ℕ) → list_all is_zero_digit ds ≡ true → sum_from m ds ≡ m
no_sum m [] h = refl
no_sum m (d ∷ ds) h =
    let both = and_parts (is_zero_digit d) (list_all is_zero_digit ds) h in
    let here : m + (d - 48) ≡ m = omega (arith, zero_digit d both.0) in
    ap (λ k. sum_from k ds) here ∙ no_sum m ds both.1

no_amount : (ds : List ℕ) → list_all is_zero_digit ds ≡ true → digits_from 0 ds ≡ 0
no_amount [] h = refl
no_amount (d ∷ ds) h =
    let both = and_parts (is_zero_digit d) (list_all is_zero_digit ds) h in
    let here : 10 * 0 + (d - 48) ≡ 0 = omega (arith, zero_digit d both.0) in
    ap (λ k. digits_from k ds) here ∙ no_amount ds both.1

only_zeros : (z : ℕ) (ds : List ℕ) → list_all is_zero_digit ds ≡ true → zeros_from z ds ≡ z + length ds
only_zeros z [] h = omega arith
only_zeros z (d ∷ ds) h =
    let both = and_parts (is_zero_digit d) (list_all is_zero_digit ds) h in
    let here : (if d == 48 then z + 1 else 0) ≡ z + 1 = ap (λ b. if b then z + 1 else 0) both.0 in
    let more = only_zeros (z + 1) ds both.1 in
    ap (λ k. zeros_from k ds) here ∙ more ∙ (let size : z + 1 + length ds ≡ z + suc (length ds) = omega arith in size)

none_begins : (bs : List ℕ) → begins (λ b. true) bs ≡ false → bs ≡ []
none_begins [] h = refl
none_begins (b ∷ bs) h = absurd (cc)

nine_tens : (n : ℕ) → n % 9 ≡ 0 → n % 10 ≡ 0 → n % 90 ≡ 0
nine_tens n a b = omega arith

abbrev whole_part : Decimal → ℕ
whole_part d = digits_from 0 d.whole

whole_turn : (d : Decimal) → list_all is_zero_digit (after_point d) ≡ true → d.exponent ≡ [] → is_turn d ≡ true → whole_part d % 90 ≡ 0
whole_turn d zeros none h = elim (or_cases (is_zero d) ((digit_sum d % 9 == 0) && nat_le (places_left d + 1) (places_right d)) h) [
  | inl nought ↦ (let both = and_parts (list_all is_zero_digit d.whole) (list_all is_zero_digit (after_point d)) nought in let e : whole_part d ≡ 0 = no_amount d.whole both.0 in omega arith)
  | inr turns ↦ (
      let both = and_parts (digit_sum d % 9 == 0) (nat_le (places_left d + 1) (places_right d)) turns in
      let sum : digit_sum d % 9 ≡ 0 = eqb-true (digit_sum d % 9) 0 both.0 in
      let plain : digit_sum d ≡ sum_from 0 d.whole = no_sum (sum_from 0 d.whole) (after_point d) zeros in
      let last : last_zeros d ≡ zeros_from 0 d.whole + length (after_point d) = only_zeros (zeros_from 0 d.whole) (after_point d) zeros in
      let places : nat_le (length (after_point d) + 0 + 1) (last_zeros d + 0) ≡ true = rw none at both.1 in
      let lower : length (after_point d) + 0 + 1 ≤ last_zeros d + 0 = leb-true (length (after_point d) + 0 + 1) (last_zeros d + 0) places in
      let some : 0 < zeros_from 0 d.whole = omega (arith, last, lower) in
      let nine : whole_part d % 9 ≡ sum_from 0 d.whole % 9 = nines 0 0 d.whole refl in
      let ten : whole_part d % 10 ≡ 0 = tens 0 0 d.whole (λ _. refl) some in
      let nine_none : whole_part d % 9 ≡ 0 = nine ∙ ap (λ n. n % 9) (sym plain) ∙ sum in
      nine_tens (whole_part d) nine_none ten)
]

size_of_amount : (negative : Bool) (n : ℕ) → unsigned_abs (if negative then neg_ℤ (pos n) else pos n) ≡ n
size_of_amount true zero = refl
size_of_amount true (suc n) = refl
size_of_amount false n = refl

-- a number with no fraction that is judged a multiple of 90 is one
pub turn_divides : (d : Decimal) → is_fractional d ≡ false → is_turn d ≡ true → (unsigned_abs (amount d) % 90 == 0) ≡ true
turn_divides d whole turns =
    let parts = or_parts (not (list_all is_zero_digit (after_point d))) (begins (λ b. true) d.exponent) whole in
    let zeros = not-false (list_all is_zero_digit (after_point d)) parts.0 in
    let e = whole_turn d zeros (none_begins d.exponent parts.1) turns in
    eq-eqb (unsigned_abs (amount d) % 90) 0 (ap (λ n. n % 90) (size_of_amount d.negative (whole_part d)) ∙ e)
