-- Points and weights whose edge functions fit 64 bits, and the weights of a counter-clockwise triangle.
use Rattle.std.specs.Prelude.{pos, ◌-ℤ◌, ◌^◌, ◌≤ℤ◌, ◌≡◌, true, ◌<ℤ◌}
use Rattle.hd_picture.specs.declared.define.coverage.Weights.{Weights}
use Rattle.hd_picture.specs.declared.define.view.ScreenPoint.{ScreenPoint}
use Rattle.hd_picture.specs.declared.draws.WorldTri.{WorldTri}
use Rattle.hd_picture.specs.Limits.{IsWithin}
use Rattle.hd_picture.specs.define.Coverage.{total, covers}
use Rattle.hd_picture.specs.define.Depth.{depth}

-- near enough for the edge function in 64 bits
pub record IsEdgeInReach (a b q : ScreenPoint) : Type 0 where
  pub along_x : IsWithin (2 ^ 26) (b.x -ℤ a.x)
  pub along_y : IsWithin (2 ^ 26) (b.y -ℤ a.y)
  pub from_x : IsWithin (2 ^ 32) (q.x -ℤ a.x)
  pub from_y : IsWithin (2 ^ 32) (q.y -ℤ a.y)

-- the same of each edge of a triangle
pub record IsInReach (a b c q : ScreenPoint) : Type 0 where
  pub ab : IsEdgeInReach a b q
  pub bc : IsEdgeInReach b c q
  pub ca : IsEdgeInReach c a q

-- a point of the frame or of a tile at its border
pub record IsNearCenter (q : ScreenPoint) : Type 0 where
  pub x : IsWithin (2 ^ 11) q.x
  pub y : IsWithin (2 ^ 11) q.y

-- weights whose sums fit 64 bits
pub record IsSmall (w : Weights) : Type 0 where
  pub a : IsWithin (2 ^ 59) w.a
  pub b : IsWithin (2 ^ 59) w.b
  pub c : IsWithin (2 ^ 59) w.c

-- weights at a point that a counter-clockwise triangle covers
pub record IsCounterClockwise (w : Weights) : Type 0 where
  pub a : pos 0 ≤ℤ w.a
  pub b : pos 0 ≤ℤ w.b
  pub c : pos 0 ≤ℤ w.c
  pub area : pos 0 <ℤ total w
  pub small : total w ≤ℤ pos (2 ^ 61)

-- v are the weights w, or these negated, of the same triangle with its corners counter-clockwise
pub record IsCounterClockwiseOf (w v : Weights) : Type 0 where
  pub covered : covers w ≡ true
  pub counter_clockwise : IsCounterClockwise v
  pub same_depth : (tri : WorldTri) → depth v tri ≡ depth w tri
