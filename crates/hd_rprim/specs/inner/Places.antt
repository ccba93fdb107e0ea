-- Where a path is in a table, or would be.
use Rattle.std.specs.Prelude.{◌≡◌, ℕ, ◌<◌, ◌≤◌, List, length, slice_index_or}
use Rattle.std.specs.List.{AllWithin}
use Rattle.std.specs.declared.cmp.Ordering.TheVariants.{Less, Greater}
use Rattle.hd_path.specs.Paths.{Path, path_cmp}
use Rattle.hd_rprim.specs.declared.row_table.PathRow.{PathRow}

-- the row with this number has the path
pub record IsPlace (path : Path) (rows : List PathRow) (i : ℕ) : Type 0 where
  pub in_range : i < length rows
  pub has_path : (default : PathRow) → (slice_index_or rows i default).path ≡ path

-- a row of the path would get this number: the paths before are below it, and the others above
pub record IsGap (path : Path) (rows : List PathRow) (i : ℕ) : Type 0 where
  pub in_range : i ≤ length rows
  pub below : AllWithin (λ r. path_cmp r.path path ≡ Less) rows 0 i
  pub above : AllWithin (λ r. path_cmp r.path path ≡ Greater) rows i (length rows)
