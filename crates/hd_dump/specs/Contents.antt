-- The contents that rows use, numbered by first use.
use Rattle.std.specs.Prelude.{ℕ, Bool, if◌then◌else◌, List, [], ◌∷◌, ◌++◌, Option, Some, None, fold, position, count_by}
use Rattle.std.specs.List.{list_any, filter_map, flat_map}
use Rattle.hd_rprim.specs.contracts.buffer.BufferPartialEq.TheImpl as buffer
use Rattle.hd_rprim.specs.declared.buffer.Buffer.{Buffer}
use Rattle.hd_rprim.specs.Shown.{ShownRow}

-- whether two contents are equal: of one variant, with equal items
abbrev pub same : Buffer → Buffer → Bool
same = (buffer.ghosts).eq

-- the contents of some rows, use by use: row by row, and of each row points, triangles and colors
abbrev pub uses : List ShownRow → List Buffer
uses rows = flat_map (λ r. filter_map (λ content. content) r.contents) rows

-- the items and one more, unless one of them is equal to it
abbrev pub with_item : {A : Type 0} → (A → A → Bool) → List A → A → List A
with_item equal items item = if list_any (equal item) items then items else items ++ item ∷ []

-- each item once, in the order of first use
abbrev pub distinct : {A : Type 0} → (A → A → Bool) → List A → List A
distinct equal used = fold (with_item equal) [] used

-- the number of an item is its place among them, from 0
abbrev pub number_in : {A : Type 0} → (A → A → Bool) → List A → Option A → Option ℕ
number_in equal items None = None
number_in equal items (Some item) = position (equal item) items

-- how many uses are of the item
abbrev pub users_in : {A : Type 0} → (A → A → Bool) → List A → A → ℕ
users_in equal used item = count_by (equal item) used
