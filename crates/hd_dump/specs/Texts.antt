-- How the values of a dump are written.
use Rattle.std.specs.Prelude.{ℕ, ℤ, Bool, true, false, List, [], ◌∷◌, ◌++◌, Option, Some, None, codes, decimal}
use Rattle.std.specs.Fmt.{signed_decimal}
use Rattle.std.specs.List.{join_by}
use Rattle.hd_num.specs.Matrices.{Rows, entry}
use Rattle.hd_num.specs.declared.vector.Rgb.{Rgb}
use Rattle.hd_num.specs.declared.vector.Vec3.{Vec3}
use Rattle.hd_path.specs.Paths.{Path, path_text}
use Rattle.hd_rprim.specs.declared.buffer.Tri.{Tri}

-- the items of a list with a separator between them, and `-` where there are none
abbrev pub list_text : {A : Type 0} → (A → List ℕ) → (separator : List ℕ) → List A → List ℕ
list_text text separator [] = codes "-"
list_text text separator (x ∷ xs) = join_by text separator (x ∷ xs)

-- a text where there is one, and else `-`
abbrev pub text_or_dash : {A : Type 0} → (A → List ℕ) → Option A → List ℕ
text_or_dash text None = codes "-"
text_or_dash text (Some x) = text x

-- three numbers, with commas between them
abbrev pub triple_text : (x y z : ℤ) → List ℕ
triple_text x y z = signed_decimal x ++ codes "," ++ signed_decimal y ++ codes "," ++ signed_decimal z

abbrev pub point_text : Vec3 → List ℕ
point_text point = triple_text point.x point.y point.z

-- the numbers of a triangle's points, and after them the number of its face
abbrev pub triangle_text : Tri → List ℕ
triangle_text triangle = triple_text triangle.a triangle.b triangle.c ++ codes "," ++ decimal triangle.face

abbrev pub color_text : Rgb → List ℕ
color_text color = decimal color.r ++ codes "," ++ decimal color.g ++ codes "," ++ decimal color.b

abbrev pub paths_text : List Path → List ℕ
paths_text = list_text path_text (codes ",")

abbrev pub numbers_text : List ℤ → List ℕ
numbers_text = list_text signed_decimal (codes ",")

abbrev pub points_text : List Vec3 → List ℕ
points_text = list_text point_text (codes ";")

-- the three numbers of a row of a matrix
abbrev pub matrix_row_text : Rows → ℕ → List ℕ
matrix_row_text matrix row = triple_text (entry matrix row 0) (entry matrix row 1) (entry matrix row 2)

-- the twelve numbers of a matrix, row by row; `out` says that it is out of range
abbrev pub matrix_text : Option Rows → List ℕ
matrix_text None = codes "out"
matrix_text (Some matrix) =
    matrix_row_text matrix 0 ++ codes "," ++ matrix_row_text matrix 1 ++ codes "," ++ matrix_row_text matrix 2 ++ codes "," ++ matrix_row_text matrix 3

-- 1 for yes, 0 for no
abbrev pub flag_text : Bool → List ℕ
flag_text true = codes "1"
flag_text false = codes "0"
