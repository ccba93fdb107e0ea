-- The lines of a dump: one for each row, and one for each content.
use Rattle.std.specs.Prelude.{ℕ, List, ◌++◌, Option, codes, decimal}
use Rattle.hd_path.specs.Paths.{Path, path_text}
use Rattle.hd_rprim.specs.declared.buffer.Buffer.{Buffer}
use Rattle.hd_rprim.specs.declared.buffer.Buffer.TheVariants as buffer
use Rattle.hd_rprim.specs.declared.row.Purpose.{Purpose}
use Rattle.hd_rprim.specs.declared.row.Purpose.TheVariants.{Default, Render, Proxy, Guide}
use Rattle.hd_rprim.specs.declared.row.Shape.{Shape}
use Rattle.hd_rprim.specs.declared.row.Shape.TheVariants.{Mesh, Points}
use Rattle.hd_rprim.specs.declared.row.RprimRow.{RprimRow}
use Rattle.hd_rprim.specs.declared.row.InstancerRow.{InstancerRow}
use Rattle.hd_rprim.specs.declared.row.Row.{Row}
use Rattle.hd_rprim.specs.declared.row.Row.TheVariants.{Rprim, Camera, Material, Instancer}
use Rattle.hd_dump.specs.Texts.{list_text, text_or_dash, triangle_text, color_text, paths_text, numbers_text, points_text, matrix_text, flag_text}

-- the word for a purpose
abbrev pub purpose_word : Purpose → List ℕ
purpose_word Default = codes "default"
purpose_word Render = codes "render"
purpose_word Proxy = codes "proxy"
purpose_word Guide = codes "guide"

-- what a mesh and points have in common
abbrev pub rprim_text : RprimRow → List ℕ
rprim_text row =
    codes " m " ++ matrix_text row.matrix
    ++ codes " v " ++ flag_text row.visible
    ++ codes " p " ++ purpose_word row.purpose
    ++ codes " b " ++ text_or_dash path_text row.binding
    ++ codes " i " ++ paths_text row.instanced_by

-- the number of a content, and `-` where there is none
abbrev pub number_text : Option ℕ → List ℕ
number_text = text_or_dash decimal

-- the line of a mesh or of points, with the numbers of its contents
abbrev pub shape_line : Shape → Path → RprimRow → (points triangles colors : Option ℕ) → List ℕ
shape_line Mesh path row points triangles colors =
    codes "mesh " ++ path_text path ++ rprim_text row
    ++ codes " pts " ++ number_text points ++ codes " tri " ++ number_text triangles ++ codes " col " ++ number_text colors ++ codes "\n"
shape_line Points path row points triangles colors =
    codes "points " ++ path_text path ++ rprim_text row
    ++ codes " pts " ++ number_text points ++ codes " col " ++ number_text colors ++ codes "\n"

-- where an instancer is, and what instances it
abbrev pub placing_text : InstancerRow → List ℕ
placing_text row =
    codes " m " ++ matrix_text row.matrix
    ++ codes " v " ++ flag_text row.visible
    ++ codes " i " ++ paths_text row.instanced_by

-- its instances, and the prims that it instances
abbrev pub instances_text : InstancerRow → List ℕ
instances_text row =
    codes " at " ++ points_text row.positions
    ++ codes " of " ++ numbers_text row.proto_indices
    ++ codes " to " ++ paths_text row.targets

-- the line of a row, with the numbers of its contents; only meshes and points have contents
abbrev pub row_line : Path → Row → (points triangles colors : Option ℕ) → List ℕ
row_line path (Rprim row) points triangles colors = shape_line row.shape path row points triangles colors
row_line path (Camera matrix) points triangles colors = codes "camera " ++ path_text path ++ codes " m " ++ matrix_text matrix ++ codes "\n"
row_line path (Material color) points triangles colors = codes "material " ++ path_text path ++ codes " c " ++ text_or_dash color_text color ++ codes "\n"
row_line path (Instancer row) points triangles colors = codes "instancer " ++ path_text path ++ placing_text row ++ instances_text row ++ codes "\n"

-- the word for what a content consists of
abbrev pub kind_word : Buffer → List ℕ
kind_word (buffer.Points points) = codes "pts"
kind_word (buffer.Triangles triangles) = codes "tri"
kind_word (buffer.Colors colors) = codes "col"

-- the items of a content
abbrev pub items_text : Buffer → List ℕ
items_text (buffer.Points points) = points_text points
items_text (buffer.Triangles triangles) = list_text triangle_text (codes ";") triangles
items_text (buffer.Colors colors) = list_text color_text (codes ";") colors

-- the line of a content, with its number and the number of its uses
abbrev pub entry_line : (number : ℕ) → Buffer → (users : ℕ) → List ℕ
entry_line number content users =
    codes "entry " ++ decimal number ++ codes " " ++ kind_word content ++ codes " users " ++ decimal users ++ codes " " ++ items_text content ++ codes "\n"
