-- Rows with parts read anew, and the buffers that they want.
use Rattle.std.specs.Prelude.{ℕ, if◌then◌else◌, List, [], ◌∷◌, Option, Some, None}
use Rattle.hd_value.specs.declared.groups.Group.{Group}
use Rattle.hd_value.specs.declared.groups.Group.TheVariants as group
use Rattle.hd_value.specs.Maps.{Map}
use Rattle.hd_dirty.specs.Bits.{has}
use Rattle.hd_rprim.specs.declared.buffer.Buffer.{Buffer}
use Rattle.hd_rprim.specs.declared.buffer.Buffer.TheVariants.{Points, Triangles, Colors}
use Rattle.hd_rprim.specs.declared.row.RprimRow.{RprimRow}
use Rattle.hd_rprim.specs.declared.row.InstancerRow.{InstancerRow}
use Rattle.hd_rprim.specs.declared.row.Row.{Row}
use Rattle.hd_rprim.specs.declared.row.Row.TheVariants.{Rprim, Camera, Material, Instancer}
use Rattle.hd_rprim.specs.Readings.{matrix_in, visible_in, purpose_in, binding_in, instancers_in, face_count_in, points_in, triangles_in, colors_in, material_color_in, positions_in, proto_indices_in, targets_in}

-- what is read anew where the group's bit is set, and else what was there
abbrev pub renewed : {A : Type 0} → ℕ → Group → A → A → A
renewed bits group new old = if has bits group then new else old

-- the slots stay: they are given later
abbrev pub staged_rprim : ℕ → Map → RprimRow → RprimRow
staged_rprim bits values row = record {
  shape = row.shape;
  matrix = renewed bits group.Transform (matrix_in values) row.matrix;
  visible = renewed bits group.Visibility (visible_in values) row.visible;
  purpose = renewed bits group.Purpose (purpose_in values) row.purpose;
  binding = renewed bits group.Binding (binding_in values) row.binding;
  instanced_by = renewed bits group.Instancer (instancers_in values) row.instanced_by;
  faces = renewed bits group.Topology (face_count_in values) row.faces;
  points = row.points;
  triangles = row.triangles;
  colors = row.colors;
}

abbrev pub staged_instancer : ℕ → Map → InstancerRow → InstancerRow
staged_instancer bits values row = record {
  matrix = renewed bits group.Transform (matrix_in values) row.matrix;
  visible = renewed bits group.Visibility (visible_in values) row.visible;
  instanced_by = renewed bits group.Instancer (instancers_in values) row.instanced_by;
  positions = renewed bits group.Instances (positions_in values) row.positions;
  proto_indices = renewed bits group.Instances (proto_indices_in values) row.proto_indices;
  targets = renewed bits group.Instances (targets_in values) row.targets;
}

-- the row with the parts of the bits read from the values
abbrev pub staged : ℕ → Map → Row → Row
staged bits values (Rprim row) = Rprim (staged_rprim bits values row)
staged bits values (Camera matrix) = Camera (renewed bits group.Transform (matrix_in values) matrix)
staged bits values (Material color) = Material (renewed bits group.MaterialColor (material_color_in values) color)
staged bits values (Instancer row) = Instancer (staged_instancer bits values row)

-- a buffer where the group's bit is set
abbrev pub wanted : ℕ → Group → Buffer → Option Buffer
wanted bits group buffer = renewed bits group (Some buffer) None

-- the buffers that are wanted: points, triangles and colors, each where its bit is set; a row that is not drawn wants none
abbrev pub buffers_of : ℕ → Map → Row → List (Option Buffer)
buffers_of bits values (Rprim row) =
    wanted bits group.Points (Points (points_in values))
    ∷ wanted bits group.Topology (Triangles (triangles_in values))
    ∷ wanted bits group.Color (Colors (colors_in values))
    ∷ []
buffers_of bits values _ = None ∷ None ∷ None ∷ []
