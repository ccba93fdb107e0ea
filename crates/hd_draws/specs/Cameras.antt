-- Where the eye of a picture is.
use Rattle.std.specs.Prelude.{◌^◌, if◌then◌else◌, pos, List, [], ◌∷◌, slice_index_or, Option, Some, None}
use Rattle.std.specs.Option.{option_map}
use Rattle.hd_num.specs.declared.vector.Vec3.{Vec3}
use Rattle.hd_num.specs.Matrices.{Rows}
use Rattle.hd_num.specs.Points.{point_of}
use Rattle.hd_path.specs.Paths.{Path}
use Rattle.hd_scene.specs.Tells.{is_same_path}
use Rattle.hd_rprim.specs.declared.row.Row.{Row}
use Rattle.hd_rprim.specs.declared.row.Row.TheVariants.{Camera}
use Rattle.hd_rprim.specs.Shown.{ShownRow}

-- the eye of a picture that names no camera
abbrev pub default_eye : Vec3
default_eye = record { x = pos 0; y = pos 0; z = pos (2 ^ 24) }

-- the place to which a matrix moves the origin: its last row
abbrev pub origin_of : Rows → Vec3
origin_of matrix = point_of (slice_index_or matrix 3 [])

-- the place of a camera whose matrix is in range
abbrev pub camera_place : Row → Option Vec3
camera_place (Camera matrix) = option_map origin_of matrix
camera_place _ = None

abbrev pub camera_at : List ShownRow → Path → Option Vec3
camera_at [] path = None
camera_at (r ∷ rows) path = if is_same_path r.path path then camera_place r.row else camera_at rows path

-- the eye of the camera at a path, or the default one; none where no camera is at the path, or its matrix is out of range
abbrev pub eye : List ShownRow → Option Path → Option Vec3
eye rows None = Some default_eye
eye rows (Some path) = camera_at rows path
