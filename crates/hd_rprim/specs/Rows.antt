-- Rows in which nothing was read yet.
use Rattle.std.specs.Prelude.{false, if◌then◌else◌, [], Option, Some, None}
use Rattle.hd_path.specs.Names.{Name, is_same}
use Rattle.hd_tokens.specs.Kinds.{mesh_kind, points_kind, camera_kind, material_kind, point_instancer_kind}
use Rattle.hd_rprim.specs.declared.row.Shape.{Shape}
use Rattle.hd_rprim.specs.declared.row.Shape.TheVariants.{Mesh, Points}
use Rattle.hd_rprim.specs.declared.row.Purpose.TheVariants.{Default}
use Rattle.hd_rprim.specs.declared.row.RprimRow.{RprimRow}
use Rattle.hd_rprim.specs.declared.row.InstancerRow.{InstancerRow}
use Rattle.hd_rprim.specs.declared.row.Row.{Row}
use Rattle.hd_rprim.specs.declared.row.Row.TheVariants.{Rprim, Camera, Material, Instancer}

abbrev pub blank_rprim : Shape → RprimRow
blank_rprim shape = record {
  shape = shape;
  matrix = None;
  visible = false;
  purpose = Default;
  binding = None;
  instanced_by = [];
  faces = 0;
  points = None;
  triangles = None;
  colors = None;
}

abbrev pub blank_instancer : InstancerRow
blank_instancer = record { matrix = None; visible = false; instanced_by = []; positions = []; proto_indices = []; targets = [] }

-- the row of a prim of this kind before anything is read, and none for a kind that has no rows
abbrev pub blank : Name → Option Row
blank kind =
    if is_same kind mesh_kind then Some (Rprim (blank_rprim Mesh))
    else (if is_same kind points_kind then Some (Rprim (blank_rprim Points))
    else (if is_same kind camera_kind then Some (Camera None)
    else (if is_same kind material_kind then Some (Material None)
    else (if is_same kind point_instancer_kind then Some (Instancer blank_instancer)
    else None))))
