-- Where the copies of a row are placed.
use Rattle.std.specs.Prelude.{◌==◌, ◌&&◌, Bool, false, if◌then◌else◌, ℤ, pos, int_lt, nat_abs, List, [], ◌∷◌, length, filter_map, flat_map, zip, slice_get, Option, Some, None}
use Rattle.std.specs.Option.{option_map_or}
use Rattle.hd_num.specs.declared.op.Op.TheVariants.{Translate}
use Rattle.hd_num.specs.declared.vector.Vec3.{Vec3}
use Rattle.hd_num.specs.Matrices.{Rows}
use Rattle.hd_path.specs.Paths.{Path, is_prefix}
use Rattle.hd_scene.specs.Tells.{is_same_path}
use Rattle.hd_flattening.specs.Local.{compose, matrix_of}
use Rattle.hd_rprim.specs.declared.row.InstancerRow.{InstancerRow}
use Rattle.hd_rprim.specs.declared.row.RprimRow.{RprimRow}
use Rattle.hd_rprim.specs.declared.row.Row.{Row}
use Rattle.hd_rprim.specs.declared.row.Row.TheVariants.{Instancer}
use Rattle.hd_rprim.specs.Shown.{ShownRow}

-- the instancer of a row that is one
abbrev pub instancer_of : Row → Option InstancerRow
instancer_of (Instancer row) = Some row
instancer_of _ = None

-- the instancer at a path
abbrev pub instancer_at : List ShownRow → Path → Option InstancerRow
instancer_at [] path = None
instancer_at (r ∷ rows) path = if is_same_path r.path path then instancer_of r.row else instancer_at rows path

-- an instancer places copies where it is visible, no instancer places it, and it has a target's number for each position
abbrev pub places_copies : InstancerRow → Bool
places_copies instancer = instancer.visible && (length instancer.instanced_by == 0) && (length instancer.positions == length instancer.proto_indices)

-- the target of this number, from 0
abbrev pub target_at : List Path → ℤ → Option Path
target_at targets number = if int_lt number (pos 0) then None else slice_get targets (nat_abs number)

-- whether a copy of the target of this number has the prim at the path in it
abbrev pub is_copied : Path → List Path → ℤ → Bool
is_copied path targets number = option_map_or (λ target. is_prefix target path) (target_at targets number) false

-- the matrix of a copy: the prim's own, then the translation by the position, then the instancer's; none where one of them or a product is out of range
abbrev pub copy_matrix : (own : Option Rows) (position : Vec3) (instancer : Option Rows) → Option Rows
copy_matrix own position instancer = compose (compose own (matrix_of (Some (Translate position)))) instancer

-- the copy at a position, where it has the prim in it and its matrix is in range
abbrev pub copy_at : (path : Path) (own : Option Rows) → InstancerRow → Vec3 × ℤ → Option Rows
copy_at path own instancer place = if is_copied path instancer.targets place.1 then copy_matrix own place.0 instancer.matrix else None

-- the copies that an instancer places, position by position
abbrev pub copies_by : (path : Path) (own : Option Rows) → Option InstancerRow → List Rows
copies_by path own None = []
copies_by path own (Some instancer) =
    if places_copies instancer then filter_map (copy_at path own instancer) (zip instancer.positions instancer.proto_indices) else []

abbrev pub listed_once : Option Rows → List Rows
listed_once None = []
listed_once (Some matrix) = matrix ∷ []

-- the matrices by which a row is drawn: its own, or those of the copies by its instancers, one instancer after the other
abbrev pub placements : List ShownRow → Path → RprimRow → List Rows
placements rows path row =
    if length row.instanced_by == 0 then listed_once row.matrix
    else flat_map (λ instancer. copies_by path row.matrix (instancer_at rows instancer)) row.instanced_by
