-- The rows of layers: what a renderer keeps of each prim that it can use.
use Rattle.std.specs.Prelude.{ℕ, if◌then◌else◌, List, [], ◌∷◌, length, Option, Some, None, unwrap_or, option_and_then, codes}
use Rattle.std.specs.List.{filter_map}
use Rattle.std.specs.Option.{option_map}
use Rattle.hd_path.specs.Names.{Name, is_same}
use Rattle.hd_path.specs.Paths.{Path}
use Rattle.hd_tokens.specs.Kinds.{mesh_kind, points_kind, camera_kind, material_kind, point_instancer_kind}
use Rattle.hd_schema.specs.Colors.{byte_color}
use Rattle.hd_retained.specs.Layers.{Layer}
use Rattle.hd_flattening.specs.Flat.{or_if_empty}
use Rattle.hd_rprim.specs.declared.buffer.Buffer.{Buffer}
use Rattle.hd_rprim.specs.declared.buffer.Buffer.TheVariants as buffer
use Rattle.hd_rprim.specs.declared.row.Shape.{Shape}
use Rattle.hd_rprim.specs.declared.row.Shape.TheVariants.{Mesh, Points}
use Rattle.hd_rprim.specs.declared.row.RprimRow.{RprimRow}
use Rattle.hd_rprim.specs.declared.row.InstancerRow.{InstancerRow}
use Rattle.hd_rprim.specs.declared.row.Row.{Row}
use Rattle.hd_rprim.specs.declared.row.Row.TheVariants.{Rprim, Camera, Material, Instancer}
use Rattle.hd_rprim.specs.Fans.{triangles}
use Rattle.hd_rprim.specs.Readings.{purpose_named, white}
use Rattle.hd_rprim.specs.Shown.{ShownRow}
use Rattle.hd_attributes.specs.Attributes.{kind_at, all_paths, triples_of, numbers_of, triple_of, paths_of}
use Rattle.hd_attributes.specs.Inherited.{way_to, flat_matrix, is_visible, flat_purpose, flat_binding, flat_colors}
use Rattle.hd_attributes.specs.Instances.{instancers}

-- the number of faces of a mesh; points have none
abbrev pub face_count : Shape → List Layer → Path → ℕ
face_count Mesh layers path = length (numbers_of layers path (codes "faceVertexCounts"))
face_count Points layers path = 0

abbrev pub rprim_row : Shape → List Layer → Path → RprimRow
rprim_row shape layers path = record {
  shape = shape;
  matrix = flat_matrix layers (way_to path);
  visible = is_visible layers (way_to path);
  purpose = purpose_named (Some (flat_purpose layers (way_to path)));
  binding = flat_binding layers (way_to path);
  instanced_by = instancers layers path;
  faces = face_count shape layers path;
  points = None;
  triangles = None;
  colors = None;
}

abbrev pub instancer_row : List Layer → Path → InstancerRow
instancer_row layers path = record {
  matrix = flat_matrix layers (way_to path);
  visible = is_visible layers (way_to path);
  instanced_by = instancers layers path;
  positions = triples_of layers path (codes "positions");
  proto_indices = numbers_of layers path (codes "protoIndices");
  targets = unwrap_or (paths_of layers path (codes "prototypes")) [];
}

-- the row of a prim of this kind, without slots; none for a kind that has no rows
abbrev pub row_of_kind : Name → List Layer → Path → Option Row
row_of_kind kind layers path =
    if is_same kind mesh_kind then Some (Rprim (rprim_row Mesh layers path))
    else (if is_same kind points_kind then Some (Rprim (rprim_row Points layers path))
    else (if is_same kind camera_kind then Some (Camera (flat_matrix layers (way_to path)))
    else (if is_same kind material_kind then Some (Material (option_map byte_color (triple_of layers path (codes "color8"))))
    else (if is_same kind point_instancer_kind then Some (Instancer (instancer_row layers path))
    else None))))

-- its points
abbrev pub points : List Layer → Path → Buffer
points layers path = buffer.Points (triples_of layers path (codes "points"))

-- the triangles of its faces
abbrev pub mesh_triangles : List Layer → Path → Buffer
mesh_triangles layers path = buffer.Triangles (triangles (numbers_of layers path (codes "faceVertexCounts")) (numbers_of layers path (codes "faceVertexIndices")))

-- its colors, or one white where there are none
abbrev pub colors : List Layer → Path → Buffer
colors layers path = buffer.Colors (or_if_empty (flat_colors layers (way_to path)) (white ∷ []))

-- a mesh has points, triangles and colors, and points have no triangles
abbrev pub shape_contents : Shape → List Layer → Path → List (Option Buffer)
shape_contents Mesh layers path = Some (points layers path) ∷ Some (mesh_triangles layers path) ∷ Some (colors layers path) ∷ []
shape_contents Points layers path = Some (points layers path) ∷ None ∷ Some (colors layers path) ∷ []

-- other rows have no contents
abbrev pub contents_of : Row → List Layer → Path → List (Option Buffer)
contents_of (Rprim row) layers path = shape_contents row.shape layers path
contents_of _ layers path = None ∷ None ∷ None ∷ []

-- the row at a path, where a prim with a row is
abbrev pub row_at : List Layer → Path → Option ShownRow
row_at layers path =
    option_map (λ row. record { path = path; row = row; contents = contents_of row layers path }) (option_and_then (λ kind. row_of_kind kind layers path) (kind_at layers path))

-- all rows, in path order
abbrev pub index : List Layer → List ShownRow
index layers = filter_map (row_at layers) (all_paths layers)
