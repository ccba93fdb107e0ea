-- Digests of buffers: numbers of 64 bits, into which all numbers of a buffer are mixed.
use Rattle.std.specs.Prelude.{ℕ, ◌+◌, ◌*◌, ◌%◌, ◌^◌, ℤ, fold}
use Rattle.std.specs.Int.{w64, cast_unsigned}
use Rattle.hd_num.specs.declared.vector.Rgb.{Rgb}
use Rattle.hd_num.specs.declared.vector.Vec3.{Vec3}
use Rattle.hd_rprim.specs.declared.buffer.Tri.{Tri}
use Rattle.hd_rprim.specs.declared.buffer.Buffer.{Buffer}
use Rattle.hd_rprim.specs.declared.buffer.Buffer.TheVariants.{Points, Triangles, Colors}

-- a digest into which one more number is mixed: the digest times an odd number, plus the number
abbrev pub mixed : ℕ → ℕ → ℕ
mixed digest number = ((digest * 6364136223846793005) % 2 ^ 64 + number) % 2 ^ 64

-- a signed number is mixed in by its 64 bits
abbrev pub mixed_int : ℕ → ℤ → ℕ
mixed_int digest number = mixed digest (cast_unsigned w64 number)

-- the three numbers of a point are mixed in
abbrev pub mixed_point : ℕ → Vec3 → ℕ
mixed_point digest point = mixed_int (mixed_int (mixed_int digest point.x) point.y) point.z

-- the numbers of a triangle's points are mixed in
abbrev pub mixed_corners : ℕ → Tri → ℕ
mixed_corners digest triangle = mixed_int (mixed_int (mixed_int digest triangle.a) triangle.b) triangle.c

-- and after them the number of its face
abbrev pub mixed_triangle : ℕ → Tri → ℕ
mixed_triangle digest triangle = mixed (mixed_corners digest triangle) triangle.face

-- the three channels of a color are mixed in
abbrev pub mixed_color : ℕ → Rgb → ℕ
mixed_color digest color = mixed (mixed (mixed digest color.r) color.g) color.b

-- all items of a buffer are mixed in, in order; each variant begins with a number of its own
abbrev pub digest_of : Buffer → ℕ
digest_of (Points points) = fold mixed_point 1 points
digest_of (Triangles triangles) = fold mixed_triangle 2 triangles
digest_of (Colors colors) = fold mixed_color 3 colors
