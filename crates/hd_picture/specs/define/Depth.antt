-- The depth of a triangle at a point that it covers: the mean of its corners' z by their weights, rounded down.
use Rattle.std.specs.Prelude.{pos, ◌*ℤ◌, ℤ, ◌+ℤ◌, int_lt, neg_ℤ, if◌then◌else◌}
use Rattle.std.specs.Int.{int_div_euclid}
use Rattle.hd_picture.specs.declared.define.coverage.Weights.{Weights}
use Rattle.hd_picture.specs.declared.draws.WorldTri.{WorldTri}
use Rattle.hd_picture.specs.define.Coverage.{total}

-- the greatest whole number that is at most n / d, where d is not 0: Euclid's quotient by a divisor above 0
unfoldable pub floor_div : (n d : ℤ) → ℤ
floor_div n d = if int_lt d (pos 0) then int_div_euclid (neg_ℤ n) (neg_ℤ d) else int_div_euclid n d

-- the depth of a triangle by its weights at a point
unfoldable pub depth : Weights → WorldTri → ℤ
depth w tri = floor_div (w.a *ℤ tri.a.z +ℤ w.b *ℤ tri.b.z +ℤ w.c *ℤ tri.c.z) (total w)
