-- Faces, and the triangles that they are cut into.
use Rattle.std.specs.Prelude.{ℕ, ◌+◌, ◌-◌, ℤ, pos, nat_abs, int_le, List, [], ◌∷◌, ◌++◌, length, take, drop, map, sum_by, Bool, ◌&&◌, ◌==◌, if◌then◌else◌, slice_index_or}
use Rattle.std.specs.List.{list_all, range_with_len}
use Rattle.hd_rprim.specs.declared.buffer.Tri.{Tri}

-- no count is negative, and together they take all the indices
abbrev pub takes_all : List ℤ → List ℤ → Bool
takes_all counts indices = list_all (int_le (pos 0)) counts && (sum_by nat_abs counts == length indices)

-- the indices, face by face
abbrev pub faces : List ℤ → List ℤ → List (List ℤ)
faces [] indices = []
faces (count ∷ counts) indices = take (nat_abs count) indices ∷ faces counts (drop (nat_abs count) indices)

abbrev pub corner : List ℤ → ℕ → ℤ
corner face k = slice_index_or face k (pos 0)

-- the first corner of a face with its corner k and the one after that
abbrev pub fan_triangle : ℕ → List ℤ → ℕ → Tri
fan_triangle number face k = record { a = corner face 0; b = corner face k; c = corner face (k + 1); face = number }

-- a face is a fan: its first corner with each two neighbours after it
abbrev pub fan : (number : ℕ) → List ℤ → List Tri
fan number face = map (fan_triangle number face) (range_with_len 1 (length face - 2))

-- the fans of some faces, which are numbered from the number on
abbrev pub fans_from : ℕ → List (List ℤ) → List Tri
fans_from number [] = []
fans_from number (face ∷ faces) = fan number face ++ fans_from (number + 1) faces

-- the triangles of a mesh; none where its counts and its indices do not agree
abbrev pub triangles : (counts indices : List ℤ) → List Tri
triangles counts indices = if takes_all counts indices then fans_from 0 (faces counts indices) else []
