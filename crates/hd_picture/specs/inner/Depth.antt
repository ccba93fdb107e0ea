-- The parts of a depth, and the greatest that a triangle has.
use Rattle.std.specs.Prelude.{◌*ℤ◌, ℤ, ◌+ℤ◌}
use Rattle.std.specs.Int.{int_max}
use Rattle.hd_picture.specs.declared.define.coverage.Weights.{Weights}
use Rattle.hd_picture.specs.declared.draws.WorldTri.{WorldTri}

-- the corners' z, each times its weight
abbrev pub depth_sum : Weights → WorldTri → ℤ
depth_sum w tri = w.a *ℤ tri.a.z +ℤ w.b *ℤ tri.b.z +ℤ w.c *ℤ tri.c.z

-- the greatest z of the corners
abbrev pub max_depth : WorldTri → ℤ
max_depth tri = int_max tri.a.z (int_max tri.b.z tri.c.z)
