-- What is read of the values of a prim of a flattened scene.
use Rattle.std.specs.Prelude.{ℕ, ℤ, Bool, if◌then◌else◌, List, [], ◌∷◌, length, Option, Some, None, codes, unwrap_or}
use Rattle.std.specs.FinMap.{get, empty}
use Rattle.std.specs.Option.{option_and_then}
use Rattle.hd_num.specs.declared.vector.Rgb.{Rgb}
use Rattle.hd_num.specs.declared.vector.Vec3.{Vec3}
use Rattle.hd_num.specs.Matrices.{Rows}
use Rattle.hd_path.specs.Names.{Name, is_same}
use Rattle.hd_path.specs.Paths.{Path}
use Rattle.hd_tokens.specs.Locators.{Locator, points_at, counts_at, indices_at, color_at, matrix_at, visibility_at, purpose_at, binding_at, instanced_by_at, positions_at, proto_indices_at, prototypes_at, material_color_at}
use Rattle.hd_value.specs.declared.value.Value.{Value}
use Rattle.hd_value.specs.declared.value.Value.TheVariants.{Ints, Vecs, Color, Matrix}
use Rattle.hd_value.specs.Maps.{Map}
use Rattle.hd_scene.specs.declared.prims.Primitive.{Primitive}
use Rattle.hd_flattening.specs.Values.{token_of, paths_of, colors_of, is_set}
use Rattle.hd_flattening.specs.Flat.{first_of, or_if_empty}
use Rattle.hd_rprim.specs.declared.row.Purpose.{Purpose}
use Rattle.hd_rprim.specs.declared.row.Purpose.TheVariants.{Default, Render, Proxy, Guide}
use Rattle.hd_rprim.specs.declared.buffer.Tri.{Tri}
use Rattle.hd_rprim.specs.Fans.{triangles}

-- the values of a prim, and none where no prim is
abbrev pub values_of : Primitive → Map
values_of prim = unwrap_or prim.values empty

-- the points of a value, and none where there is another value, or nothing
abbrev pub vecs_of : Option Value → List Vec3
vecs_of (Some (Vecs points)) = points
vecs_of _ = []

abbrev pub ints_of : Option Value → List ℤ
ints_of (Some (Ints numbers)) = numbers
ints_of _ = []

abbrev pub color_of : Option Value → Option Rgb
color_of (Some (Color color)) = Some color
color_of _ = None

abbrev pub matrix_of : Option Value → Option Rows
matrix_of (Some (Matrix matrix)) = Some matrix
matrix_of _ = None

-- the purpose of a word; another word, and no word, mean the default one
abbrev pub purpose_named : Option Name → Purpose
purpose_named None = Default
purpose_named (Some word) =
    if is_same word (codes "render") then Render
    else (if is_same word (codes "proxy") then Proxy
    else (if is_same word (codes "guide") then Guide
    else Default))

abbrev pub white : Rgb
white = record { r = 255; g = 255; b = 255 }

-- the transform to the world, and none where it is out of range
abbrev pub matrix_in : Map → Option Rows
matrix_in values = matrix_of (get values matrix_at)

abbrev pub visible_in : Map → Bool
visible_in values = is_set (get values visibility_at)

abbrev pub purpose_in : Map → Purpose
purpose_in values = purpose_named (token_of (get values purpose_at))

abbrev pub binding_in : Map → Option Path
binding_in values = option_and_then first_of (paths_of (get values binding_at))

-- the paths at a locator
abbrev pub paths_in : Map → Locator → List Path
paths_in values at = unwrap_or (paths_of (get values at)) []

abbrev pub points_in : Map → List Vec3
points_in values = vecs_of (get values points_at)

-- the number of corners of each face
abbrev pub counts_in : Map → List ℤ
counts_in values = ints_of (get values counts_at)

abbrev pub face_count_in : Map → ℕ
face_count_in values = length (counts_in values)

abbrev pub triangles_in : Map → List Tri
triangles_in values = triangles (counts_in values) (ints_of (get values indices_at))

-- the colors, and one white where there are none
abbrev pub colors_in : Map → List Rgb
colors_in values = or_if_empty (colors_of (get values color_at)) (white ∷ [])

abbrev pub material_color_in : Map → Option Rgb
material_color_in values = color_of (get values material_color_at)

abbrev pub instancers_in : Map → List Path
instancers_in values = paths_in values instanced_by_at

abbrev pub positions_in : Map → List Vec3
positions_in values = vecs_of (get values positions_at)

abbrev pub proto_indices_in : Map → List ℤ
proto_indices_in values = ints_of (get values proto_indices_at)

abbrev pub targets_in : Map → List Path
targets_in values = paths_in values prototypes_at
