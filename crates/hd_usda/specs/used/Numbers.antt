-- The tokens of values of used properties: numbers, and what closes and parts them.
use Rattle.std.specs.Prelude.{ℕ, ℤ, List, [], ◌∷◌, Bool, true, ◌&&◌, ◌||◌, not, Option, Some, None, Result, Ok, Err, if◌then◌else◌, codes}
use Rattle.std.specs.Str.{bytes_eq}
use Rattle.hd_num.specs.declared.vector.Vec3.{Vec3}
use Rattle.hd_lexer.specs.declared.lexer.Kind.{Kind}
use Rattle.hd_lexer.specs.declared.lexer.Kind.TheVariants.{Number, OpenRound, CloseRound, Comma}
use Rattle.hd_layer.specs.declared.fault.LayerWhy.{LayerWhy}
use Rattle.hd_layer.specs.declared.fault.LayerWhy.TheVariants.{Syntax, LeftOut, Fraction, Limit}
use Rattle.hd_layer.specs.declared.limits.Which.TheVariants.{Literal}
use Rattle.hd_usda.specs.declared.used.numbers.NumberRule.{NumberRule}
use Rattle.hd_usda.specs.declared.used.numbers.NumberRule.TheVariants.{Any, Turn, Zero, One}
use Rattle.hd_lexer.specs.Lexing.{Tokens}
use Rattle.hd_usda.specs.reading.Cursor.{◌>>=◌, Fault, Past, Form, is, rest, text, line_of, fault_in, fault_at}
use Rattle.hd_lexer.specs.Decimals.{Decimal, parts_of, amount, is_fractional, within_limit}
use Rattle.hd_lexer.specs.Exact.{is_turn, is_zero, is_one}

-- `inf`, `-inf` or `nan`
abbrev pub is_non_finite_text : List ℕ → Bool
is_non_finite_text text = bytes_eq text (codes "inf") || bytes_eq text (codes "-inf") || bytes_eq text (codes "nan")

-- the next token is a number that is not finite
abbrev pub is_non_finite : Tokens → Bool
is_non_finite ts = is Number ts && is_non_finite_text (text ts)

-- what is wrong with a token that does not belong in the value of an attribute or a relationship: in that of an attribute, numbers that are not finite are left out
unfoldable pub wrong_token_fault : Bool → Tokens → LayerWhy
wrong_token_fault attribute ts = if attribute && is_non_finite ts then LeftOut else Syntax

-- the tokens after the next, which is of this kind
unfoldable pub need : Bool → Kind → Past
need attribute k ts = if is k ts then Ok (rest ts) else Err (fault_at ts (wrong_token_fault attribute ts))

-- the number is one that has a meaning in its place
abbrev pub allows : NumberRule → Decimal → Bool
allows Any d = true
allows Turn d = is_turn d
allows Zero d = is_zero d
allows One d = is_one d

-- a number within the limit, in this line
abbrev pub number_within : ℕ → Option ℤ → Result ℤ Fault
number_within line None = Err (fault_in line (Limit Literal))
number_within line (Some n) = Ok n

-- what a finite number in this line gives
abbrev pub checked_number : NumberRule → ℕ → Decimal → Result ℤ Fault
checked_number demand line d =
    if not (allows demand d) then Err (fault_in line LeftOut)
    else (if is_fractional d then Err (fault_in line Fraction)
    else number_within line (within_limit (amount d)))

-- NUMBER, of which something may be demanded
unfoldable pub number : NumberRule → Form ℤ
number demand ts = do
  u ← need true Number ts
  n ← (if is_non_finite_text (text ts) then Err (fault_at ts LeftOut) else checked_number demand (line_of ts) (parts_of (text ts)))
  Ok (n, u)

-- triple = "(" NUMBER "," NUMBER "," NUMBER ")"
unfoldable pub triple : NumberRule → Form Vec3
triple demand ts = do
  u ← need true OpenRound ts
  x ← number demand u
  v ← need true Comma x.1
  y ← number demand v
  w ← need true Comma y.1
  z ← number demand w
  end ← need true CloseRound z.1
  Ok (record { x = x.0; y = y.0; z = z.0 }, end)

-- row = "(" NUMBER "," NUMBER "," NUMBER "," NUMBER ")", of which the last is 0 or 1
unfoldable pub row : NumberRule → Form (List ℤ)
row last ts = do
  u ← need true OpenRound ts
  x ← number Any u
  v ← need true Comma x.1
  y ← number Any v
  w ← need true Comma y.1
  z ← number Any w
  a ← need true Comma z.1
  l ← number last a
  end ← need true CloseRound l.1
  Ok (x.0 ∷ y.0 ∷ z.0 ∷ [], end)
