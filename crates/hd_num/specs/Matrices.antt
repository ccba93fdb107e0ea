-- Points are rows of four numbers, the fourth of them 1, and a matrix is to their right. A matrix is kept as four rows of three numbers, the fourth row being the translation. Its fourth column is 0, 0, 0, 1 and isn't kept.
use Rattle.std.specs.Prelude.{◌≡◌, ℕ, zero, suc, ◌^◌, ◌==◌, Bool, if◌then◌else◌, ℤ, pos, ◌+ℤ◌, ◌*ℤ◌, unsigned_abs, List, [], ◌∷◌, slice_index_or, nat_le, IsTrue, Option, Some, None}
use Rattle.std.specs.List.{list_all}

-- the kept rows of a matrix
abbrev pub Rows : Type 0
Rows = List (List ℤ)

-- the number at a row and a column, and 0 where there is none
abbrev pub entry : Rows → ℕ → ℕ → ℤ
entry m row column = slice_index_or (slice_index_or m row []) column (pos 0)

-- the numbers of a column that is kept
abbrev pub column_of : Rows → ℕ → List ℤ
column_of m column = entry m 0 column ∷ entry m 1 column ∷ entry m 2 column ∷ entry m 3 column ∷ []

-- the four numbers of a row: three that are listed, and the last
abbrev pub with_last : List ℤ → ℤ → ℕ → ℤ
with_last row last k = if k == 3 then last else slice_index_or row k (pos 0)

-- a row of a matrix with its number in the fourth column
abbrev pub affine_entry : Rows → ℕ → ℕ → ℤ
affine_entry m row = with_last (slice_index_or m row []) (if row == 3 then pos 1 else pos 0)

-- f 0 + .. + f (n - 1)
abbrev pub sum_below : ℕ → (ℕ → ℤ) → ℤ
sum_below zero f = pos 0
sum_below (suc n) f = sum_below n f +ℤ f n

-- f 0, f 1, f 2
abbrev pub three : (ℕ → ℤ) → List ℤ
three f = f 0 ∷ f 1 ∷ f 2 ∷ []

-- the four rows of the three numbers f row column
abbrev pub table : (ℕ → ℕ → ℤ) → Rows
table f = three (f 0) ∷ three (f 1) ∷ three (f 2) ∷ three (f 3) ∷ []

-- a row of four numbers times a column of a matrix
abbrev pub row_times : (ℕ → ℤ) → Rows → ℕ → ℤ
row_times row m column = sum_below 4 (λ k. row k *ℤ entry m k column)

-- 1 on the diagonal, and 0 elsewhere
abbrev pub identity : Rows
identity = table (λ row column. if row == column then pos 1 else pos 0)

-- a times b, which moves a point by a and then by b
unfoldable pub product : Rows → Rows → Rows
product a b = table (λ row. row_times (affine_entry a row) b)

-- the number is from -bound to bound
abbrev pub is_within : ℕ → ℤ → Bool
is_within bound z = nat_le (unsigned_abs z) bound

-- each number is from -2^30 to 2^30
unfoldable pub in_range : Rows → Bool
in_range m = list_all (list_all (is_within (2 ^ 30))) m

-- the matrix, and none where it is out of range
unfoldable pub if_in_range : Rows → Option Rows
if_in_range m = if in_range m then Some m else None

-- four rows of three numbers
abbrev pub IsShaped : Rows → Type 0
IsShaped m = m ≡ table (entry m)

-- four rows of three numbers, each from -2^30 to 2^30
pub record IsMatrix (m : Rows) : Type 0 where
  pub shaped : IsShaped m
  pub within : IsTrue (in_range m)
