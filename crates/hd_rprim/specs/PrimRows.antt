-- The rows of the prims of a flattened scene.
use Rattle.std.specs.Prelude.{ℕ, if◌then◌else◌, List, [], ◌∷◌, Option, Some, None}
use Rattle.std.specs.FinMap.{entries}
use Rattle.std.specs.List.{filter_map}
use Rattle.std.specs.Option.{option_map}
use Rattle.hd_path.specs.Names.{Name, is_same}
use Rattle.hd_path.specs.Paths.{Path}
use Rattle.hd_tokens.specs.Kinds.{mesh_kind, points_kind, camera_kind, material_kind, point_instancer_kind}
use Rattle.hd_value.specs.Maps.{Map}
use Rattle.hd_scene.specs.Scenes.{Scene}
use Rattle.hd_scene.specs.declared.prims.Entry.{Entry}
use Rattle.hd_rprim.specs.declared.buffer.Buffer.{Buffer}
use Rattle.hd_rprim.specs.declared.buffer.Buffer.TheVariants as buffer
use Rattle.hd_rprim.specs.declared.row.Shape.{Shape}
use Rattle.hd_rprim.specs.declared.row.Shape.TheVariants.{Mesh, Points}
use Rattle.hd_rprim.specs.declared.row.RprimRow.{RprimRow}
use Rattle.hd_rprim.specs.declared.row.InstancerRow.{InstancerRow}
use Rattle.hd_rprim.specs.declared.row.Row.{Row}
use Rattle.hd_rprim.specs.declared.row.Row.TheVariants.{Rprim, Camera, Material, Instancer}
use Rattle.hd_rprim.specs.Readings.{matrix_in, visible_in, purpose_in, binding_in, instancers_in, face_count_in, points_in, triangles_in, colors_in, material_color_in, positions_in, proto_indices_in, targets_in}
use Rattle.hd_rprim.specs.Shown.{ShownRow}

-- a mesh has faces, and points have none
abbrev pub faces_read : Shape → Map → ℕ
faces_read Mesh values = face_count_in values
faces_read Points values = 0

abbrev pub rprim_row : Shape → Map → RprimRow
rprim_row shape values = record {
  shape = shape;
  matrix = matrix_in values;
  visible = visible_in values;
  purpose = purpose_in values;
  binding = binding_in values;
  instanced_by = instancers_in values;
  faces = faces_read shape values;
  points = None;
  triangles = None;
  colors = None;
}

abbrev pub instancer_row : Map → InstancerRow
instancer_row values = record {
  matrix = matrix_in values;
  visible = visible_in values;
  instanced_by = instancers_in values;
  positions = positions_in values;
  proto_indices = proto_indices_in values;
  targets = targets_in values;
}

-- the row that is read of a prim of this kind, without slots; none for a kind that has no rows
abbrev pub row_read : Name → Map → Option Row
row_read kind values =
    if is_same kind mesh_kind then Some (Rprim (rprim_row Mesh values))
    else (if is_same kind points_kind then Some (Rprim (rprim_row Points values))
    else (if is_same kind camera_kind then Some (Camera (matrix_in values))
    else (if is_same kind material_kind then Some (Material (material_color_in values))
    else (if is_same kind point_instancer_kind then Some (Instancer (instancer_row values))
    else None))))

-- a mesh has points, triangles and colors, and points have no triangles
abbrev pub shape_contents : Shape → Map → List (Option Buffer)
shape_contents Mesh values = Some (buffer.Points (points_in values)) ∷ Some (buffer.Triangles (triangles_in values)) ∷ Some (buffer.Colors (colors_in values)) ∷ []
shape_contents Points values = Some (buffer.Points (points_in values)) ∷ None ∷ Some (buffer.Colors (colors_in values)) ∷ []

-- what is read beside the row: other rows have no contents
abbrev pub contents_read : Row → Map → List (Option Buffer)
contents_read (Rprim row) values = shape_contents row.shape values
contents_read _ values = None ∷ None ∷ None ∷ []

-- the row of the prim at a path
abbrev pub row_of_prim : Path × Entry → Option ShownRow
row_of_prim e = option_map (λ row. record { path = e.0; row = row; contents = contents_read row e.1.values }) (row_read e.1.kind e.1.values)

-- the rows of all prims that have one, in path order
abbrev pub rows_of : Scene → List ShownRow
rows_of scene = filter_map row_of_prim (entries scene)
