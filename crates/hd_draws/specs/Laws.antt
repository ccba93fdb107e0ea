-- What follows from the definitions.
use Rattle.std.specs.Prelude.{◌≡◌, ℕ, ℤ, pos, int_le, nat_abs, nat_lt, Bool, false, ◌&&◌, List, [], ◌∷◌, length, Option, Some, None}
use Rattle.hd_num.specs.declared.vector.Rgb.{Rgb}
use Rattle.hd_num.specs.declared.vector.Vec3.{Vec3}
use Rattle.hd_num.specs.Matrices.{Rows}
use Rattle.hd_path.specs.Paths.{Path}
use Rattle.hd_rprim.specs.declared.buffer.Buffer.{Buffer}
use Rattle.hd_rprim.specs.declared.buffer.Tri.{Tri}
use Rattle.hd_rprim.specs.declared.row.RprimRow.{RprimRow}
use Rattle.hd_rprim.specs.declared.row.Row.{Row}
use Rattle.hd_rprim.specs.declared.row.Row.TheVariants.{Rprim}
use Rattle.hd_rprim.specs.Shown.{ShownRow}
use Rattle.hd_draws.specs.DrawList.{mesh_triangle, rprim_draws, row_draws}
use Rattle.hd_draws.specs.Placements.{placements}

-- a row that is not visible draws nothing
abbrev pub InvisibleDrawsNothing : Type 0
InvisibleDrawsNothing =
    (rows : List ShownRow) (path : Path) (row : RprimRow) (points triangles colors : Option Buffer) → row.visible ≡ false → rprim_draws rows path row points triangles colors ≡ []

-- a row without instancers is placed once, by its own matrix, where that is in range
abbrev pub PlacedOnce : Type 0
PlacedOnce = (rows : List ShownRow) (path : Path) (row : RprimRow) (matrix : Rows) → row.instanced_by ≡ [] → row.matrix ≡ Some matrix → placements rows path row ≡ matrix ∷ []

-- rows that are neither of meshes nor of points draw nothing
abbrev pub OtherRowsDrawNothing : Type 0
OtherRowsDrawNothing =
    (rows : List ShownRow) (path : Path) (row : Row) (points triangles colors : Option Buffer) → ((rprim : RprimRow) → row ≡ Rprim rprim → ⊥)
    → row_draws rows path row points triangles colors ≡ []

-- whether an index names one of so many points
abbrev pub names_point : ℕ → ℤ → Bool
names_point count index = int_le (pos 0) index && nat_lt (nat_abs index) count

abbrev pub names_points : ℕ → Tri → Bool
names_points count t = names_point count t.a && (names_point count t.b && names_point count t.c)

-- a triangle of which a corner names no point is not drawn
abbrev pub CornersNamePoints : Type 0
CornersNamePoints =
    (points : List (Option Vec3)) (colors : List Rgb) (faces : ℕ) (t : Tri) → names_points (length points) t ≡ false → mesh_triangle points colors faces t ≡ None
