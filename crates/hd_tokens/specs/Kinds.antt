-- The kinds of prims that pictures are made from.
use Rattle.std.specs.Prelude.{codes}
use Rattle.hd_path.specs.Names.{Name}

abbrev pub mesh_kind : Name
mesh_kind = codes "Mesh"

-- a cloud of points
abbrev pub points_kind : Name
points_kind = codes "Points"

abbrev pub camera_kind : Name
camera_kind = codes "Camera"

abbrev pub material_kind : Name
material_kind = codes "Material"

-- a prim that places copies of its prototypes
abbrev pub point_instancer_kind : Name
point_instancer_kind = codes "PointInstancer"
