-- Rows in range, and their entries.
use Rattle.std.proofs.Common.{◌≡◌, ℕ, zero, suc, ◌^◌, ◌≤◌, List, [], ◌∷◌, Bool, true, false, ◌&&◌, length, refl, arith, ℤ, get_or, unsigned_abs, IsTrue, Some, None, if◌then◌else◌, w64, lit<}
use Rattle.std.proofs.lemmas.Int.{to_z-of_z}
use Rattle.std.specs.List.{list_all}
use Rattle.hd_num.specs.Matrices.{Rows, column_of, entry, is_within, in_range, if_in_range}
use Rattle.hd_num.proofs.Sizes.{size_at, kept, fits_up_to}

rows_within : (m : Rows) (i : ℕ) → IsTrue (list_all (list_all (is_within (2 ^ 30))) m) → IsTrue (list_all (is_within (2 ^ 30)) (get_or m i []))
rows_within [] i h = refl
rows_within (row ∷ rows) zero h = grind arith
rows_within (row ∷ rows) (suc i) h = rows_within rows i (grind arith)

pub row_within : (m : Rows) (i : ℕ) → IsTrue (in_range m) → IsTrue (list_all (is_within (2 ^ 30)) (get_or m i []))
unfolding in_range
row_within m i h = rows_within m i h

pub entry_size : (m : Rows) (i j : ℕ) → IsTrue (in_range m) → unsigned_abs (entry m i j) ≤ 2 ^ 30
entry_size m i j h = size_at (2 ^ 30) (get_or m i []) j (row_within m i h)

pub bounded-in_range : (m : Rows) → IsTrue (in_range m) → Some m ≡ if_in_range m
unfolding if_in_range
bounded-in_range m h = rw h refl

-- an entry as the code keeps it, in bits
pub entry_kept : (m : Rows) (i j : ℕ) → IsTrue (in_range m) → kept w64 (entry m i j) ≡ entry m i j
entry_kept m i j h = to_z-of_z w64 (entry m i j) (fits_up_to w64 (entry m i j) (2 ^ 30) (entry_size m i j h) (lit< tt))

pub entry_within : (m : Rows) (i j : ℕ) → IsTrue (in_range m) → IsTrue (is_within (2 ^ 30) (kept w64 (entry m i j)))
entry_within m i j h = let size = entry_size m i j h in rw (entry_kept m i j h) (grind arith)

some_of_test : (b : Bool) (m x : Rows) → Some x ≡ (if b then Some m else None) → x ≡ m
some_of_test true m x e = cc
some_of_test false m x e = cc

pub bounded-some : (m x : Rows) → Some x ≡ if_in_range m → x ≡ m
unfolding if_in_range
bounded-some m x e = some_of_test (in_range m) m x e

-- a column as the code keeps it, in bits
pub column_kept : (m : Rows) (j : ℕ) → IsTrue (in_range m) → ◌≡◌ {A = List ℤ} (kept w64 (entry m 0 j) ∷ kept w64 (entry m 1 j) ∷ kept w64 (entry m 2 j) ∷ kept w64 (entry m 3 j) ∷ []) (column_of m j)
column_kept m j h =
    rw (entry_kept m 0 j h, entry_kept m 1 j h, entry_kept m 2 j h, entry_kept m 3 j h) refl

pub column_within : (m : Rows) (j : ℕ) → IsTrue (in_range m) → IsTrue (list_all (is_within (2 ^ 30)) (column_of m j))
column_within m j h =
    let size = λ (i : ℕ). entry_size m i j h in
    let a = size 0 in let b = size 1 in let c = size 2 in let d = size 3 in grind arith

number_within_more : (z : ℤ) → IsTrue (is_within (2 ^ 30) z) → IsTrue (is_within (2 ^ 31) z)
number_within_more z h = grind arith

pub row_within_more : (row : List ℤ) → IsTrue (list_all (is_within (2 ^ 30)) row) → IsTrue (list_all (is_within (2 ^ 31)) row)
row_within_more [] h = refl
row_within_more (z ∷ row) h = let more = number_within_more z in let rest = row_within_more row in grind arith

pub row_within_twice : (m : Rows) (i : ℕ) → IsTrue (in_range m) → IsTrue (list_all (is_within (2 ^ 31)) (get_or m i []))
row_within_twice m i h = row_within_more (get_or m i []) (row_within m i h)

-- the test of four rows, one after the other
same_tests : (a b c d : Bool) → (a && b && c && d) ≡ (a && (b && (c && (d && true))))
same_tests true true true true = refl
same_tests true true true false = refl
same_tests true true false d = refl
same_tests true false c d = refl
same_tests false b c d = refl

pub in_range-rows : (m : Rows) → length m ≡ 4 → (list_all (is_within (2 ^ 30)) (get_or m 0 []) && list_all (is_within (2 ^ 30)) (get_or m 1 []) && list_all (is_within (2 ^ 30)) (get_or m 2 []) && list_all (is_within (2 ^ 30)) (get_or m 3 [])) ≡ in_range m
unfolding in_range
in_range-rows [] e = absurd (omega arith)
in_range-rows (a ∷ []) e = absurd (omega arith)
in_range-rows (a ∷ b ∷ []) e = absurd (omega arith)
in_range-rows (a ∷ b ∷ c ∷ []) e = absurd (omega arith)
in_range-rows (a ∷ b ∷ c ∷ d ∷ []) e = let test = list_all (is_within (2 ^ 30)) in same_tests (test a) (test b) (test c) (test d)
in_range-rows (a ∷ b ∷ c ∷ d ∷ f ∷ rest) e = absurd (omega arith)
