-- A table of rows is the list of them, each with its path, in path order.
use Rattle.std.specs.Prelude.{ℕ, zero, suc, not, if◌then◌else◌, List, [], ◌∷◌, ◌++◌, map, filter, Option, Some, None}
use Rattle.std.specs.List.Sorted.{IsStrictlySortedBy}
use Rattle.std.specs.Ordering.{is_lt, is_gt}
use Rattle.std.specs.Option.{option_map}
use Rattle.hd_path.specs.Paths.{Path, path_cmp}
use Rattle.hd_scene.specs.Tells.{is_same_path}
use Rattle.hd_rprim.specs.declared.row.Row.{Row}
use Rattle.hd_rprim.specs.declared.row_table.PathRow.{PathRow}

abbrev pub paths_of_rows : List PathRow → List Path
paths_of_rows rows = map (λ r. r.path) rows

-- the paths ascend
abbrev pub AreRows : List PathRow → Type 0
AreRows rows = IsStrictlySortedBy path_cmp (paths_of_rows rows)

-- the number of the row of a path, and none where no row has the path
abbrev pub place_of : Path → List PathRow → Option ℕ
place_of path [] = None
place_of path (r ∷ rows) = if is_same_path r.path path then Some 0 else option_map suc (place_of path rows)

-- the row of a path
abbrev pub row_of : Path → List PathRow → Option Row
row_of path [] = None
row_of path (r ∷ rows) = if is_same_path r.path path then Some r.row else row_of path rows

-- the rows with a row at a path, between those before it and those after it
abbrev pub rows_with : Path → Row → List PathRow → List PathRow
rows_with path row rows = filter (λ r. is_lt (path_cmp r.path path)) rows ++ record { path = path; row = row } ∷ filter (λ r. is_gt (path_cmp r.path path)) rows

-- the rows with another row in the place of the one with this number
abbrev pub with_row_at : ℕ → Row → List PathRow → List PathRow
with_row_at i row [] = []
with_row_at zero row (r ∷ rows) = record { path = r.path; row = row } ∷ rows
with_row_at (suc i) row (r ∷ rows) = r ∷ with_row_at i row rows

-- the rows of other paths
abbrev pub rows_without : Path → List PathRow → List PathRow
rows_without path rows = filter (λ r. not (is_same_path r.path path)) rows
