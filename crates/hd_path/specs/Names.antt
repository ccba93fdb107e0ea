-- What a name is.
use Rattle.std.specs.Prelude.{◌≡◌, ℕ, ◌≤◌, Bool, true, false, ◌&&◌, ◌||◌, ◌==◌, nat_le, if◌then◌else◌, List, [], ◌∷◌, length, nat_eq}
use Rattle.std.specs.Cmp.Lexicographic.{pointwise, slice_cmp}
use Rattle.std.specs.declared.cmp.Ordering.{Ordering}
use Rattle.std.specs.List.{list_all, prefix_len}
use Rattle.std.specs.Ordering.{nat_cmp}

-- a name, or any text, is the list of its bytes
abbrev pub Name : Type 0
Name = List ℕ

-- an ASCII letter, or an underscore
abbrev pub is_letter : ℕ → Bool
is_letter b = (nat_le 65 b && nat_le b 90) || (nat_le 97 b && nat_le b 122) || b == 95

abbrev pub is_digit : ℕ → Bool
is_digit b = nat_le 48 b && nat_le b 57

abbrev pub is_word : ℕ → Bool
is_word b = is_letter b || is_digit b

-- a letter, and after it letters and digits
abbrev pub is_identifier : Name → Bool
is_identifier [] = false
is_identifier (first ∷ rest) = is_letter first && list_all is_word rest

-- how many bytes at the front belong to an identifier
abbrev pub identifier_len : List ℕ → ℕ
identifier_len [] = 0
identifier_len (first ∷ rest) = if is_letter first then prefix_len is_word (first ∷ rest) else 0

-- an identifier of at most 64 bytes
pub record IsName (name : Name) : Type 0 where
  pub identifier : is_identifier name ≡ true
  pub short : length name ≤ 64

-- whether the two names are one
abbrev pub is_same : Name → Name → Bool
is_same = pointwise nat_eq

-- the order of two names by their bytes
abbrev pub byte_order : Name → Name → Ordering
byte_order = slice_cmp nat_cmp
