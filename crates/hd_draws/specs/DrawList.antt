-- The triangles that the rows of an index draw.
use Rattle.std.specs.Prelude.{ℕ, ◌+◌, ◌^◌, ◌==◌, ◌&&◌, Bool, true, false, if◌then◌else◌, ℤ, pos, ◌+ℤ◌, int_lt, nat_abs, List, [], ◌∷◌, ◌++◌, length, map, filter_map, flat_map, slice_index_or, Option, Some, None, option_and_then}
use Rattle.std.specs.List.{list_all, cons_option}
use Rattle.std.specs.Option.{option_map}
use Rattle.hd_num.specs.declared.vector.Rgb.{Rgb}
use Rattle.hd_num.specs.declared.vector.Vec3.{Vec3}
use Rattle.hd_num.specs.Matrices.{Rows, is_within}
use Rattle.hd_num.specs.Points.{components, transform_point}
use Rattle.hd_path.specs.Paths.{Path}
use Rattle.hd_picture.specs.declared.draws.WorldTri.{WorldTri}
use Rattle.hd_rprim.specs.declared.buffer.Buffer.{Buffer}
use Rattle.hd_rprim.specs.declared.buffer.Buffer.TheVariants as buffer
use Rattle.hd_rprim.specs.declared.buffer.Tri.{Tri}
use Rattle.hd_rprim.specs.declared.row.Purpose.{Purpose}
use Rattle.hd_rprim.specs.declared.row.Purpose.TheVariants.{Default, Render, Proxy, Guide}
use Rattle.hd_rprim.specs.declared.row.Shape.{Shape}
use Rattle.hd_rprim.specs.declared.row.Shape.TheVariants.{Mesh, Points}
use Rattle.hd_rprim.specs.declared.row.RprimRow.{RprimRow}
use Rattle.hd_rprim.specs.declared.row.Row.{Row}
use Rattle.hd_rprim.specs.declared.row.Row.TheVariants.{Rprim}
use Rattle.hd_rprim.specs.Readings.{white}
use Rattle.hd_rprim.specs.Shown.{ShownRow}
use Rattle.hd_draws.specs.Placements.{placements}

-- a point that is near enough to the middle of the world to be drawn
abbrev pub if_near : Vec3 → Option Vec3
if_near p = if list_all (is_within (2 ^ 24)) (components p) then Some p else None

-- the triangle of three points, if all three are drawn
abbrev pub world_triangle : Option Vec3 → Option Vec3 → Option Vec3 → Rgb → Option WorldTri
world_triangle a b c color = option_and_then (λ p. option_and_then (λ q. option_map (λ r. record { a = p; b = q; c = r; color = color }) c) b) a

-- the color of a face or of a point: the one of its number where there are as many colors as there are faces or points, and else the first
abbrev pub color_of : List Rgb → (count number : ℕ) → Rgb
color_of colors count number = slice_index_or colors (if length colors == count then number else 0) white

-- the point that an index names, where it is drawn
abbrev pub corner_at : List (Option Vec3) → ℤ → Option Vec3
corner_at points index = if int_lt index (pos 0) then None else slice_index_or points (nat_abs index) None

abbrev pub mesh_triangle : List (Option Vec3) → (colors : List Rgb) (faces : ℕ) → Tri → Option WorldTri
mesh_triangle points colors faces t = world_triangle (corner_at points t.a) (corner_at points t.b) (corner_at points t.c) (color_of colors faces t.face)

-- the triangles of a mesh where a matrix places it; each has three points, all of them drawn
abbrev pub mesh_triangles : List Vec3 → List Tri → List Rgb → (faces : ℕ) → Rows → List WorldTri
mesh_triangles points triangles colors faces matrix =
    filter_map (mesh_triangle (map (λ p. if_near (transform_point p matrix)) points) colors faces) triangles

-- a point to the right of another one, and above it
abbrev pub offset : Vec3 → (right up : ℕ) → Vec3
offset p right up = record { x = p.x +ℤ pos right; y = p.y +ℤ pos up; z = p.z }

-- a point of a cloud is a square of one unit, in two triangles
abbrev pub point_square : Vec3 → Rgb → List WorldTri
point_square p color =
    cons_option (world_triangle (if_near p) (if_near (offset p 1 0)) (if_near (offset p 1 1)) color)
    (cons_option (world_triangle (if_near p) (if_near (offset p 1 1)) (if_near (offset p 0 1)) color) [])

-- the squares of points, which are numbered from the number on, in a cloud of so many points
abbrev pub squares_from : (number count : ℕ) → List Rgb → Rows → List Vec3 → List WorldTri
squares_from number count colors matrix [] = []
squares_from number count colors matrix (p ∷ points) =
    point_square (transform_point p matrix) (color_of colors count number) ++ squares_from (number + 1) count colors matrix points

-- the points, the triangles and the colors of a row's contents
abbrev pub points_of : Option Buffer → List Vec3
points_of (Some (buffer.Points points)) = points
points_of _ = []

abbrev pub triangles_of : Option Buffer → List Tri
triangles_of (Some (buffer.Triangles triangles)) = triangles
triangles_of _ = []

abbrev pub colors_of : Option Buffer → List Rgb
colors_of (Some (buffer.Colors colors)) = colors
colors_of _ = []

-- what a matrix places of a mesh with so many faces, or of a cloud of points
abbrev pub placed_triangles : Shape → (faces : ℕ) → List Vec3 → List Tri → List Rgb → Rows → List WorldTri
placed_triangles Mesh faces points triangles colors matrix = mesh_triangles points triangles colors faces matrix
placed_triangles Points faces points triangles colors matrix = squares_from 0 (length points) colors matrix points

-- a picture shows what is for it, or for all uses
abbrev pub is_for_pictures : Purpose → Bool
is_for_pictures Default = true
is_for_pictures Render = true
is_for_pictures Proxy = false
is_for_pictures Guide = false

-- the triangles of a row of a mesh or of points, placement by placement, where it is visible
abbrev pub rprim_draws : List ShownRow → Path → RprimRow → (points triangles colors : Option Buffer) → List WorldTri
rprim_draws rows path row points triangles colors =
    if row.visible && is_for_pictures row.purpose then flat_map (placed_triangles row.shape row.faces (points_of points) (triangles_of triangles) (colors_of colors)) (placements rows path row) else []

abbrev pub row_draws : List ShownRow → Path → Row → (points triangles colors : Option Buffer) → List WorldTri
row_draws rows path (Rprim row) points triangles colors = rprim_draws rows path row points triangles colors
row_draws rows path _ points triangles colors = []

-- the triangles of a row, from the contents that it has
abbrev pub shown_draws : List ShownRow → ShownRow → List WorldTri
shown_draws rows r = row_draws rows r.path r.row (slice_index_or r.contents 0 None) (slice_index_or r.contents 1 None) (slice_index_or r.contents 2 None)

-- the triangles of all rows, in path order
abbrev pub draw_list : List ShownRow → List WorldTri
draw_list rows = flat_map (shown_draws rows) rows
