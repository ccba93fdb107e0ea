-- The weights and the depth of a triangle, followed from pixel to pixel of a tile.
use Rattle.std.specs.Prelude.{ℕ, pos, ◌-ℤ◌, ◌*ℤ◌, ℤ, ◌+ℤ◌, ◌^◌, ◌≤ℤ◌, ◌≡◌, ◌<ℤ◌, ◌<◌, ◌⊎◌}
use Rattle.hd_num.specs.declared.vector.Vec3.{Vec3}
use Rattle.hd_picture.specs.declared.define.coverage.Weights.{Weights}
use Rattle.hd_picture.specs.declared.define.view.ScreenPoint.{ScreenPoint}
use Rattle.hd_picture.specs.declared.draws.WorldTri.{WorldTri}
use Rattle.hd_picture.specs.declared.raster.depth_fraction.DepthFraction.{DepthFraction}
use Rattle.hd_picture.specs.declared.raster.edge_stepping.EdgeValues.{EdgeValues}
use Rattle.hd_picture.specs.declared.raster.window.Window.{Window}
use Rattle.hd_picture.specs.Limits.{IsWithin}
use Rattle.hd_picture.specs.define.Coverage.{screen_weights}
use Rattle.hd_picture.specs.inner.Coverage.{IsSmall}
use Rattle.hd_picture.specs.inner.Depth.{depth_sum}
use Rattle.hd_picture.specs.inner.DepthFraction.{IsRemainder, numerator}
use Rattle.hd_picture.specs.inner.Window.{pixel_center_at}

-- the point at an offset
abbrev pub offset_point : (q offset : ScreenPoint) → ScreenPoint
offset_point q offset = record { x = q.x +ℤ offset.x; y = q.y +ℤ offset.y }

-- the offset of a neighboring pixel
pub record IsPixelOffset (offset : ScreenPoint) : Type 0 where
  pub x : IsWithin 2 offset.x
  pub y : IsWithin 2 offset.y

-- both ends of an edge that can be drawn
pub record IsEdge (a b : ScreenPoint) : Type 0 where
  pub along_x : IsWithin (2 ^ 26) (b.x -ℤ a.x)
  pub along_y : IsWithin (2 ^ 26) (b.y -ℤ a.y)

-- how much an edge function changes by an offset
unfoldable pub weight_change : (a b offset : ScreenPoint) → ℤ
weight_change a b offset = (b.x -ℤ a.x) *ℤ offset.y -ℤ (b.y -ℤ a.y) *ℤ offset.x

-- the sums of two weights each
abbrev pub add_weights : (v w : Weights) → Weights
add_weights v w = record { a = v.a +ℤ w.a; b = v.b +ℤ w.b; c = v.c +ℤ w.c }

-- weights that change little from a pixel to the next
pub record IsStepWeights (w : Weights) : Type 0 where
  pub a : IsWithin (2 ^ 28) w.a
  pub b : IsWithin (2 ^ 28) w.b
  pub c : IsWithin (2 ^ 28) w.c

-- edge values from which a step can be taken, and such a step
pub record AreEdgeValuesInReach (area : ℤ) (at : EdgeValues) : Type 0 where
  pub weights : IsSmall at.weights
  pub remainder : IsRemainder area at.depth.remainder
  pub whole : IsWithin (2 ^ 62) at.depth.whole

pub record IsEdgeStepInReach (area : ℤ) (step : EdgeValues) : Type 0 where
  pub weights : IsStepWeights step.weights
  pub lack : IsRemainder area (step.depth.remainder +ℤ area)
  pub whole : IsWithin (2 ^ 55) step.depth.whole

-- the weights of a triangle at a point, and its depth there
pub record AreEdgeValues (eye : Vec3) (tri : WorldTri) (area : ℤ) (q : ScreenPoint) (at : EdgeValues) : Type 0 where
  pub weights : at.weights ≡ screen_weights eye tri q
  pub value : numerator area at.depth ≡ depth_sum (screen_weights eye tri q) tri
  pub remainder : IsRemainder area at.depth.remainder

-- how both change by an offset, at whatever point
pub record IsEdgeStep (eye : Vec3) (tri : WorldTri) (area : ℤ) (offset : ScreenPoint) (step : EdgeValues) : Type 0 where
  pub weights : (q : ScreenPoint) → screen_weights eye tri (offset_point q offset) ≡ add_weights (screen_weights eye tri q) step.weights
  pub value : numerator area step.depth ≡ depth_sum step.weights tri
  pub reach : IsEdgeStepInReach area step

-- no weight is below 0
pub record IsInside (w : Weights) : Type 0 where
  pub a : pos 0 ≤ℤ w.a
  pub b : pos 0 ≤ℤ w.b
  pub c : pos 0 ≤ℤ w.c

-- a depth that is not beyond the limit, and nearer than the nearest
pub record IsNearer (depth limit nearest : ℤ) : Type 0 where
  pub in_front : depth ≤ℤ limit
  pub nearer : nearest <ℤ depth

-- a counter-clockwise triangle covers the point, and is nearer there than the nearest
pub record IsVisible (at : EdgeValues) (limit nearest : ℤ) : Type 0 where
  pub covered : IsInside at.weights
  pub nearer : IsNearer at.depth.whole limit nearest

-- the same weight is below 0 at both points
abbrev pub IsRowOutside : (v w : Weights) → Type 0
IsRowOutside v w =
    ((v.a <ℤ pos 0) × (w.a <ℤ pos 0))
    ⊎ ((v.b <ℤ pos 0) × (w.b <ℤ pos 0))
    ⊎ ((v.c <ℤ pos 0) × (w.c <ℤ pos 0))

-- the weights 15 steps further, at a row's other end
abbrev pub weights_at_row_end : (at step : Weights) → Weights
weights_at_row_end at step = record { a = at.a +ℤ pos 15 *ℤ step.a; b = at.b +ℤ pos 15 *ℤ step.b; c = at.c +ℤ pos 15 *ℤ step.c }

-- a counter-clockwise triangle covers each pixel of a tile's row
abbrev pub IsRowCovered : Vec3 → Window → WorldTri → (row : ℕ) → Type 0
IsRowCovered eye w tri row = (x : ℕ) → x < 16 → IsInside (screen_weights eye tri (pixel_center_at w x row))

-- the depth of a triangle's plane at a point
pub record IsPlaneDepth (eye : Vec3) (tri : WorldTri) (area : ℤ) (q : ScreenPoint) (at : DepthFraction) : Type 0 where
  pub value : numerator area at ≡ depth_sum (screen_weights eye tri q) tri
  pub remainder : IsRemainder area at.remainder
