-- A number's value by its digits, and what the judges' sums and zeros say of it.
use Rattle.std.proofs.Common.{◌≡◌, ◌↔◌, ℕ, zero, suc, ◌+◌, ◌-◌, ◌*◌, ◌/◌, ◌%◌, ◌^◌, ◌<◌, ◌≤◌, ◌⊎◌, inl, inr, Bool, true, false, ◌&&◌, not, ◌==◌, if◌then◌else◌, nat_le, List, [], ◌∷◌, ◌++◌, take, drop, refl, sym, ap, ◌∙◌, arith, add-one}
use Rattle.std.proofs.lemmas.Bool.{cases_lt, and_parts, or_cases, eqb-true, eq-eqb, leb-true, le-leb, not-true}
use Rattle.std.proofs.lemmas.Nat.{pow-add}
use Rattle.std.proofs.Math.Bool.{or-true}
use Rattle.std.proofs.Math.Nat.{pow-suc, one-le-pow, mul_assoc, mul_comm, le-mul_of_pos_right, mul-pos, eq_of_mul-eq-mul_left, eq-zero-or-pos}
use Rattle.std.specs.List.{list_all}
use Rattle.hd_path.specs.Names.{is_digit}
use Rattle.hd_lexer.specs.Lexing.{digits, fraction_len}
use Rattle.hd_lexer.specs.Decimals.{Decimal, is_zero_digit, digits_from, parts_of, after_sign, after_whole}
use Rattle.hd_lexer.specs.Exact.{after_point, is_zero, sum_from, digit_sum, zeros_from, last_zeros, places_left, places_right, is_turn, is_one}
use Rattle.hd_lexer.specs.Laws.{numeral, exponent_above, HasSize}
use Rattle.hd_lexer.proofs.Runs.{all_taken}
use Rattle.hd_lexer.proofs.Turns.{nines}

ten_more : (m k : ℕ) → m * 10 ^ suc k ≡ 10 * (m * 10 ^ k)
ten_more m k = ap (λ x. m * x) (pow-suc 10 k) ∙ sym (mul_assoc m (10 ^ k) 10) ∙ mul_comm (m * 10 ^ k) 10

ten_some : (k : ℕ) → 0 < 10 ^ k
ten_some k = let h = one-le-pow k 10 (omega arith) in omega arith

-- powers of ten leave what nine leaves over
nine_power : (n k : ℕ) → (n * 10 ^ k) % 9 ≡ n % 9
nine_power n zero = omega arith
nine_power n (suc k) = let h = nine_power n k in let e = ten_more n k in omega arith

-- a number that ten does not divide has no factor ten to give
lower : (m x a b : ℕ) → 0 < m % 10 → m * 10 ^ a ≡ x * 10 ^ b → b ≤ a
lower m x a zero some e = omega arith
lower m x zero (suc b) some e = let f = ten_more x b in absurd (omega arith)
lower m x (suc a) (suc b) some e =
    let f = ten_more x b in
    let g = ten_more m a in
    let h = lower m x a b some (omega arith) in
    omega arith

-- what digits say, their sum and the zeros that end them
record Reads (n s z : ℕ) : Type 0 where
  m : ℕ
  is : n ≡ m * 10 ^ z
  last : (n ≡ 0) ⊎ (0 < m % 10)
  below : s ≤ m
  none : s ≡ 0 → n ≡ 0
  one : s ≡ 1 → m ≡ 1

reads_digit : (n s z d : ℕ) → is_digit d ≡ true → Reads n s z → Reads (10 * n + (d - 48)) (s + (d - 48)) (if d == 48 then z + 1 else 0)
reads_digit n s z d digit r = by (d == 48) refl
  where
    low : 48 ≤ d
    low = leb-true 48 d (and_parts (nat_le 48 d) (nat_le d 57) digit).0

    high : d ≤ 57
    high = leb-true d 57 (and_parts (nat_le 48 d) (nat_le d 57) digit).1

    size : s ≤ n
    size = let h = le-mul_of_pos_right {m = 10 ^ z} r.m (ten_some z) in omega (arith, h, r.is, r.below)

    some : (d == 48) ≡ false → 0 < d - 48
    some e = elim (cases_lt 48 d) [ inl h ↦ omega arith | inr h ↦ (let same : (d == 48) ≡ true = eq-eqb d 48 (omega (arith, low)) in absurd (cc)) ]

    by : (b : Bool) → (d == 48) ≡ b → Reads (10 * n + (d - 48)) (s + (d - 48)) (if b then z + 1 else 0)
    by true e =
        let same : d ≡ 48 = eqb-true d 48 e in
        let more = ten_more r.m z in
        record {
          m = r.m;
          is = rw (add-one z) (omega (arith, more, r.is));
          last = elim r.last [ inl h ↦ inl (omega arith) | inr h ↦ inr h ];
          below = omega (arith, r.below);
          none = λ h. (let k = r.none (omega arith) in omega arith);
          one = λ h. r.one (omega arith);
        }
    by false e =
        let v = some e in
        record {
          m = 10 * n + (d - 48);
          is = omega arith;
          last = inr (omega (arith, high, v));
          below = omega (arith, size);
          none = λ h. absurd (omega arith);
          one = λ h. (let k = r.none (omega arith) in omega arith);
        }

reads_on : (n s z : ℕ) (ds : List ℕ) → list_all is_digit ds ≡ true → Reads n s z → Reads (digits_from n ds) (sum_from s ds) (zeros_from z ds)
reads_on n s z [] all r = r
reads_on n s z (d ∷ ds) all r =
    let both = and_parts (is_digit d) (list_all is_digit ds) all in
    reads_on (10 * n + (d - 48)) (s + (d - 48)) (if d == 48 then z + 1 else 0) ds both.1 (reads_digit n s z d both.0 r)

reads_none : Reads 0 0 0
reads_none = record { m = 0; is = omega arith; last = inl refl; below = omega arith; none = λ _. refl; one = λ h. absurd (omega arith) }

digits_both : (n : ℕ) (xs ys : List ℕ) → digits_from n (xs ++ ys) ≡ digits_from (digits_from n xs) ys
digits_both n [] ys = refl
digits_both n (x ∷ xs) ys = digits_both (10 * n + (x - 48)) xs ys

-- the digits of a number are digits
pub record AreDigits (d : Decimal) : Type 0 where
  pub whole : list_all is_digit d.whole ≡ true
  pub after : list_all is_digit (after_point d) ≡ true

reads : (d : Decimal) → AreDigits d → Reads (numeral d) (digit_sum d) (last_zeros d)
reads d are = rw (digits_both 0 d.whole (after_point d)) (reads_on _ _ _ (after_point d) are.after (reads_on 0 0 0 d.whole are.whole reads_none))

-- ---- 0

zeros_are : (n : ℕ) (ds : List ℕ) → list_all is_zero_digit ds ≡ true → n ≡ 0 → digits_from n ds ≡ 0
zeros_are n [] h e = e
zeros_are n (d ∷ ds) h e =
    let both = and_parts (is_zero_digit d) (list_all is_zero_digit ds) h in
    let same : d ≡ 48 = eqb-true d 48 both.0 in
    zeros_are (10 * n + (d - 48)) ds both.1 (omega arith)

are_zeros : (n : ℕ) (ds : List ℕ) → list_all is_digit ds ≡ true → digits_from n ds ≡ 0 → (n ≡ 0) × (list_all is_zero_digit ds ≡ true)
are_zeros n [] all e = (e, refl)
are_zeros n (d ∷ ds) all e =
    let both = and_parts (is_digit d) (list_all is_digit ds) all in
    let low = leb-true 48 d (and_parts (nat_le 48 d) (nat_le d 57) both.0).0 in
    let rest = are_zeros (10 * n + (d - 48)) ds both.1 e in
    let here : is_zero_digit d ≡ true = eq-eqb d 48 (omega (arith, rest.0, low)) in
    (omega (arith, rest.0), rw here rest.1)

nought_numeral : (d : Decimal) → is_zero d ≡ true → numeral d ≡ 0
nought_numeral d h =
    let both = and_parts (list_all is_zero_digit d.whole) (list_all is_zero_digit (after_point d)) h in
    digits_both 0 d.whole (after_point d) ∙ zeros_are _ (after_point d) both.1 (zeros_are 0 d.whole both.0 refl)

numeral_nought : (d : Decimal) → AreDigits d → numeral d ≡ 0 → is_zero d ≡ true
numeral_nought d are e =
    let after = are_zeros (digits_from 0 d.whole) (after_point d) are.after (sym (digits_both 0 d.whole (after_point d)) ∙ e) in
    let whole = are_zeros 0 d.whole are.whole after.0 in
    rw whole.1 after.1

pub zero_exact : (d : Decimal) → AreDigits d → (is_zero d ≡ true) ↔ HasSize d 0
zero_exact d are = (
  (λ h. rw (nought_numeral d h) (omega arith)),
  (λ e. numeral_nought d are (elim (eq-zero-or-pos (numeral d)) [ inl h ↦ h | inr h ↦ (let some = mul-pos h (ten_some (exponent_above d)) in absurd (omega (arith, some, e))) ])),
)

-- ---- 1

raised : (n m z k : ℕ) → n ≡ m * 10 ^ z → n * 10 ^ k ≡ m * 10 ^ (z + k)
raised n m z k e = ap (λ x. x * 10 ^ k) e ∙ mul_assoc m (10 ^ z) (10 ^ k) ∙ ap (λ x. m * x) (sym (pow-add 10 z k))

same_factor : (m x a : ℕ) → m * 10 ^ a ≡ x * 10 ^ a → m ≡ x
same_factor m x a e = eq_of_mul-eq-mul_left (10 ^ a) (ten_some a) m x (mul_comm (10 ^ a) m ∙ e ∙ mul_comm x (10 ^ a))

one_reads : (n s z up left : ℕ) → Reads n s z → (s == 1) ≡ true → (left == z + up) ≡ true → n * 10 ^ up ≡ 1 * 10 ^ left
one_reads n s z up left r one places =
    let m_is = r.one (eqb-true s 1 one) in
    let same = eqb-true left (z + up) places in
    raised n r.m z up r.is ∙ ap (λ x. x * 10 ^ (z + up)) m_is ∙ ap (λ x. 1 * 10 ^ x) (sym same)

one_read : (n s z up left : ℕ) → Reads n s z → n * 10 ^ up ≡ 1 * 10 ^ left → ((s == 1) ≡ true) × ((left == z + up) ≡ true)
one_read n s z up left r e = elim r.last [
  | inl none ↦ (let some = ten_some left in let f : 0 * 10 ^ up ≡ 1 * 10 ^ left = ap (λ x. x * 10 ^ up) (sym none) ∙ e in absurd (omega (arith, some, f)))
  | inr last ↦ (
      let f : r.m * 10 ^ (z + up) ≡ 1 * 10 ^ left = sym (raised n r.m z up r.is) ∙ e in
      let low = lower r.m 1 (z + up) left last f in
      let high = lower 1 r.m left (z + up) (omega arith) (sym f) in
      let same : left ≡ z + up = omega arith in
      let m_is : r.m ≡ 1 = same_factor r.m 1 (z + up) (f ∙ ap (λ x. 1 * 10 ^ x) same) in
      let s_is : s ≡ 1 = elim (eq-zero-or-pos s) [
        | inl h ↦ (let n_is = r.none h in let g : 0 * 10 ^ up ≡ 1 * 10 ^ left = ap (λ x. x * 10 ^ up) (sym n_is) ∙ e in let some = ten_some left in absurd (omega (arith, some, g)))
        | inr h ↦ omega (arith, h, r.below, m_is)
      ] in
      (eq-eqb s 1 s_is, eq-eqb left (z + up) same))
]

pub one_exact : (d : Decimal) → AreDigits d → (is_one d ≡ true) ↔ ((d.negative ≡ false) × HasSize d 1)
one_exact d are = (forth, back)
  where
    forth : is_one d ≡ true → (d.negative ≡ false) × HasSize d 1
    forth h =
        let outer = and_parts (not d.negative && (digit_sum d == 1)) (places_left d == places_right d) h in
        let inner = and_parts (not d.negative) (digit_sum d == 1) outer.0 in
        (not-true d.negative inner.0, one_reads (numeral d) (digit_sum d) (last_zeros d) (exponent_above d) (places_left d) (reads d are) inner.1 outer.1)

    back : (d.negative ≡ false) × HasSize d 1 → is_one d ≡ true
    back h =
        let both = one_read (numeral d) (digit_sum d) (last_zeros d) (exponent_above d) (places_left d) (reads d are) h.1 in
        rw (h.0, both.0, both.1) refl

-- ---- multiples of 90

turn_reads : (n s z up left : ℕ) → Reads n s z → n % 9 ≡ 0 → left + 1 ≤ z + up → (k : ℕ) × (n * 10 ^ up ≡ (90 * k) * 10 ^ left)
turn_reads n s z up left r nine places =
    let rest = z + up - (left + 1) in
    let nine_m : r.m % 9 ≡ 0 = sym (nine_power r.m z) ∙ ap (λ x. x % 9) (sym r.is) ∙ nine in
    let q = r.m / 9 in
    let m_is : r.m ≡ 9 * q = omega arith in
    let places_are : z + up ≡ rest + suc left = omega arith in
    let e : n * 10 ^ up ≡ (9 * q) * 10 ^ (rest + suc left) = raised n r.m z up r.is ∙ ap (λ x. x * 10 ^ (z + up)) m_is ∙ ap (λ x. (9 * q) * 10 ^ x) places_are in
    let split : (9 * q) * 10 ^ (rest + suc left) ≡ ((9 * q) * 10 ^ rest) * 10 ^ suc left = sym (raised ((9 * q) * 10 ^ rest) (9 * q) rest (suc left) refl) in
    let ten : ((9 * q) * 10 ^ rest) * 10 ^ suc left ≡ 10 * (((9 * q) * 10 ^ rest) * 10 ^ left) = ten_more ((9 * q) * 10 ^ rest) left in
    let join : 10 * (((9 * q) * 10 ^ rest) * 10 ^ left) ≡ (90 * (q * 10 ^ rest)) * 10 ^ left =
    ap (λ x. 10 * (x * 10 ^ left)) (mul_assoc 9 q (10 ^ rest)) ∙ sym (mul_assoc 10 (9 * (q * 10 ^ rest)) (10 ^ left)) ∙ ap (λ x. x * 10 ^ left) (ninety (q * 10 ^ rest)) in
    (q * 10 ^ rest, e ∙ split ∙ ten ∙ join)
  where
    ninety : (x : ℕ) → 10 * (9 * x) ≡ 90 * x
    ninety x = omega arith

turn_read : (n s z up left k : ℕ) → Reads n s z → n * 10 ^ up ≡ (90 * k) * 10 ^ left → (n ≡ 0) ⊎ ((n % 9 ≡ 0) × (left + 1 ≤ z + up))
turn_read n s z up left k r e = elim r.last [
  | inl none ↦ inl none
  | inr last ↦ (
      let nine : n % 9 ≡ 0 = sym (nine_power n up) ∙ ap (λ x. x % 9) e ∙ nine_power (90 * k) left ∙ nines_of k in
      let ten : (90 * k) * 10 ^ left ≡ (9 * k) * 10 ^ suc left = ap (λ x. x * 10 ^ left) (ninety k) ∙ mul_assoc 10 (9 * k) (10 ^ left) ∙ sym (ten_more (9 * k) left) in
      let low = lower r.m (9 * k) (z + up) (suc left) last (sym (raised n r.m z up r.is) ∙ e ∙ ten) in
      inr (nine, omega arith))
]
  where
    ninety : (x : ℕ) → 90 * x ≡ 10 * (9 * x)
    ninety x = omega arith

    nines_of : (x : ℕ) → (90 * x) % 9 ≡ 0
    nines_of x = omega arith

sum_nines : (d : Decimal) → numeral d % 9 ≡ digit_sum d % 9
sum_nines d = ap (λ n. n % 9) (digits_both 0 d.whole (after_point d)) ∙ nines (digits_from 0 d.whole) (sum_from 0 d.whole) (after_point d) (nines 0 0 d.whole refl)

pub turn_exact : (d : Decimal) → AreDigits d → (is_turn d ≡ true) ↔ ((k : ℕ) × HasSize d (90 * k))
turn_exact d are = (forth, back)
  where
    forth : is_turn d ≡ true → (k : ℕ) × HasSize d (90 * k)
    forth h = elim (or_cases (is_zero d) ((digit_sum d % 9 == 0) && nat_le (places_left d + 1) (places_right d)) h) [
      | inl nought ↦ (0, (zero_exact d are).0 nought)
      | inr turns ↦ (
          let both = and_parts (digit_sum d % 9 == 0) (nat_le (places_left d + 1) (places_right d)) turns in
          turn_reads (numeral d) (digit_sum d) (last_zeros d) (exponent_above d) (places_left d) (reads d are) (sum_nines d ∙ eqb-true (digit_sum d % 9) 0 both.0) (leb-true (places_left d + 1) (places_right d) both.1))
    ]

    back : (k : ℕ) × HasSize d (90 * k) → is_turn d ≡ true
    back h = elim (turn_read (numeral d) (digit_sum d) (last_zeros d) (exponent_above d) (places_left d) h.0 (reads d are) h.1) [
      | inl none ↦ (let nought = numeral_nought d are none in rw nought refl)
      | inr both ↦ (
          let sum : (digit_sum d % 9 == 0) ≡ true = eq-eqb (digit_sum d % 9) 0 (sym (sum_nines d) ∙ both.0) in
          let places : nat_le (places_left d + 1) (places_right d) ≡ true = le-leb (places_left d + 1) (places_right d) both.1 in
          rw (sum, places) (or-true (is_zero d)))
    ]

-- ---- the parts of a text

all_after : (bs : List ℕ) → list_all is_digit (drop 1 (take (fraction_len true bs) bs)) ≡ true
all_after [] = refl
all_after (b ∷ bs) = by (b == 46) refl
  where
    by : (t : Bool) → (b == 46) ≡ t → list_all is_digit (drop 1 (take (fraction_len true (b ∷ bs)) (b ∷ bs))) ≡ true
    by true e = rw (e, add-one (digits bs)) (all_taken is_digit bs)
    by false e = rw e refl

pub parts_digits : (text : List ℕ) → AreDigits (parts_of text)
unfolding parts_of
parts_digits text = record { whole = all_taken is_digit (after_sign text); after = all_after (after_whole text) }
