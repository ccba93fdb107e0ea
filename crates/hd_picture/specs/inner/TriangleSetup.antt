-- A counter-clockwise triangle, and its changes from pixel to pixel and from row to row.
use Rattle.std.specs.Prelude.{pos, ◌-ℤ◌, ℤ, ◌^◌, ◌≤ℤ◌, ◌≡◌, ◌<ℤ◌}
use Rattle.hd_num.specs.declared.vector.Vec3.{Vec3}
use Rattle.hd_picture.specs.declared.define.view.ScreenPoint.{ScreenPoint}
use Rattle.hd_picture.specs.declared.draws.WorldTri.{WorldTri}
use Rattle.hd_picture.specs.declared.raster.triangle_setup.TriangleSetup.{TriangleSetup}
use Rattle.hd_picture.specs.define.Coverage.{screen_weights, total}
use Rattle.hd_picture.specs.inner.EdgeStepping.{IsEdgeStep}

-- a triangle's weights add up to this area, at whatever point
abbrev pub IsArea : Vec3 → WorldTri → (area : ℤ) → Type 0
IsArea eye tri area = (q : ScreenPoint) → total (screen_weights eye tri q) ≡ area

-- a counter-clockwise triangle, whose steps go one pixel to the right and one down
pub record IsTriangleSetup (eye : Vec3) (tri : WorldTri) (setup : TriangleSetup) : Type 0 where
  pub area : IsArea eye tri setup.area
  pub counter_clockwise : pos 0 <ℤ setup.area
  pub most : setup.area ≤ℤ pos (2 ^ 61)
  pub right : IsEdgeStep eye tri setup.area (record { x = pos 2; y = pos 0 }) setup.right
  pub down : IsEdgeStep eye tri setup.area (record { x = pos 0; y = pos 0 -ℤ pos 2 }) setup.down
