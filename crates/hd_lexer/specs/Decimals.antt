-- What the text of a number says.
use Rattle.std.specs.Prelude.{ℕ, ◌+◌, ◌*◌, ◌-◌, ℤ, pos, neg_ℤ, unsigned_abs, List, Bool, true, ◌||◌, not, ◌==◌, nat_le, if◌then◌else◌, Option, Some, None, fold, take, drop}
use Rattle.std.specs.List.{list_all}
use Rattle.hd_layer.specs.declared.limits.Which.TheVariants.{Literal}
use Rattle.hd_layer.specs.Limits.{limit_of}
use Rattle.hd_lexer.specs.Lexing.{begins, digits, sign_len, fraction_len}

-- the parts of a number: its digits before the point, the point with those after it, and its exponent
pub record Decimal : Type 0 where
  pub negative : Bool
  pub whole : List ℕ
  pub fraction : List ℕ
  pub exponent : List ℕ

abbrev pub is_minus : ℕ → Bool
is_minus b = b == 45

abbrev pub is_zero_digit : ℕ → Bool
is_zero_digit b = b == 48

abbrev pub after_sign : List ℕ → List ℕ
after_sign text = drop (sign_len text) text

abbrev pub after_whole : List ℕ → List ℕ
after_whole text = drop (digits (after_sign text)) (after_sign text)

-- the parts of the text of a number
unfoldable pub parts_of : List ℕ → Decimal
parts_of text = record {
  negative = begins is_minus text;
  whole = take (digits (after_sign text)) (after_sign text);
  fraction = take (fraction_len true (after_whole text)) (after_whole text);
  exponent = drop (fraction_len true (after_whole text)) (after_whole text);
}

-- what digits say, after those that said n
abbrev pub digits_from : ℕ → List ℕ → ℕ
digits_from n ds = fold (λ m d. 10 * m + (d - 48)) n ds

-- the number before the point
abbrev pub amount : Decimal → ℤ
amount d = if d.negative then neg_ℤ (pos (digits_from 0 d.whole)) else pos (digits_from 0 d.whole)

-- an exponent, or a digit other than 0 after the point
abbrev pub is_fractional : Decimal → Bool
is_fractional d = not (list_all is_zero_digit (drop 1 d.fraction)) || begins (λ b. true) d.exponent

-- a number whose absolute value is within the limit
abbrev pub within_limit : ℤ → Option ℤ
within_limit n = if nat_le (unsigned_abs n) (limit_of Literal) then Some n else None
