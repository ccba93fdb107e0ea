-- Paths, from the root down.
use Rattle.std.specs.Prelude.{ℕ, ◌≤◌, Bool, true, false, ◌&&◌, List, [], ◌∷◌, length, All, codes}
use Rattle.std.specs.Cmp.Lexicographic.{slice_cmp}
use Rattle.std.specs.List.{flat_map}
use Rattle.std.specs.declared.cmp.Ordering.{Ordering}
use Rattle.hd_path.specs.Names.{Name, IsName, is_same, byte_order}

-- a path is the list of its names
abbrev pub Path : Type 0
Path = List Name

-- at most 32 names
pub record IsPath (names : Path) : Type 0 where
  pub shallow : length names ≤ 32
  pub named : All IsName names

-- each name after a slash
abbrev pub names_text : List Name → List ℕ
names_text names = flat_map (λ name. 47 ∷ name) names

-- the text of a path: a slash for the root, and else each name after a slash
abbrev pub path_text : Path → List ℕ
path_text [] = codes "/"
path_text (name ∷ names) = names_text (name ∷ names)

-- whether the second list of names begins with the first. It is said of paths, and of locators, whose names are tokens
abbrev pub is_prefix : List Name → List Name → Bool
is_prefix [] whole = true
is_prefix (x ∷ front) [] = false
is_prefix (x ∷ front) (y ∷ whole) = is_same x y && is_prefix front whole

-- the order of paths, name by name
abbrev pub path_cmp : Path → Path → Ordering
path_cmp = slice_cmp byte_order
