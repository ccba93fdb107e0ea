-- How a matrix moves a point.
use Rattle.std.specs.Prelude.{ℕ, ◌^◌, Bool, if◌then◌else◌, ℤ, pos, List, [], ◌∷◌, slice_index_or, Option, Some, None}
use Rattle.std.specs.List.{list_all}
use Rattle.hd_num.specs.declared.vector.Vec3.{Vec3}
use Rattle.hd_num.specs.Matrices.{Rows, three, with_last, row_times, is_within}

-- the components of a point, as a row
abbrev pub components : Vec3 → List ℤ
components p = p.x ∷ p.y ∷ p.z ∷ []

-- the point with these components
abbrev pub point_of : List ℤ → Vec3
point_of row = record {
  x = slice_index_or row 0 (pos 0);
  y = slice_index_or row 1 (pos 0);
  z = slice_index_or row 2 (pos 0);
}

-- x, y, z and 1
abbrev pub coordinate : Vec3 → ℕ → ℤ
coordinate p = with_last (components p) (pos 1)

-- the point times the matrix
unfoldable pub transform_point : Vec3 → Rows → Vec3
transform_point p m = point_of (three (row_times (coordinate p) m))

-- each component is from -2^30 to 2^30
abbrev pub point_in_range : Vec3 → Bool
point_in_range p = list_all (is_within (2 ^ 30)) (components p)

-- the point, and none where it is out of range
unfoldable pub if_point_in_range : Vec3 → Option Vec3
if_point_in_range p = if point_in_range p then Some p else None
