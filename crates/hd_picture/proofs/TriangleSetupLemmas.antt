-- A counter-clockwise triangle, and the pixels of a tile.
use Rattle.std.proofs.Common.{◌≡◌, ◌⊎◌, inl, inr, ℕ, ◌+◌, ◌*◌, ◌<◌, ◌≤◌, ◌^◌, arith, ap, ◌∙◌, refl, sym, subst, Bool, true, false, List, ℤ, pos, neg_ℤ, ◌+ℤ◌, ◌<ℤ◌}
use Rattle.std.proofs.lemmas.Int.{ints}
use Rattle.hd_num.specs.declared.vector.Vec3.{Vec3}
use Rattle.hd_picture.specs.declared.draws.WorldTri.{WorldTri}
use Rattle.hd_picture.specs.declared.define.coverage.Weights.{Weights}
use Rattle.hd_picture.specs.declared.define.pixels.Fragment.{Fragment}
use Rattle.hd_picture.specs.declared.define.view.ScreenTriangle.{ScreenTriangle}
use Rattle.hd_picture.specs.declared.define.view.ScreenPoint.{ScreenPoint}
use Rattle.hd_picture.specs.declared.raster.edge_stepping.EdgeValues.{EdgeValues}
use Rattle.hd_picture.specs.declared.raster.window.Window.{Window}
use Rattle.hd_picture.specs.Laws.{mirror_image}
use Rattle.hd_picture.specs.Limits.{IsPointWithin, IsTriWithin, IsWithin}
use Rattle.hd_picture.specs.define.Coverage.{covers, screen_weights, total, weights}
use Rattle.hd_picture.specs.define.Depth.{depth, floor_div}
use Rattle.hd_picture.specs.define.View.{screen_point}
use Rattle.hd_picture.specs.inner.Coverage.{IsNearCenter, IsSmall}
use Rattle.hd_picture.specs.inner.Depth.{depth_sum}
use Rattle.hd_picture.specs.inner.DepthBuffer.{IsRasterized}
use Rattle.hd_picture.specs.inner.EdgeStepping.{AreEdgeValues, AreEdgeValuesInReach, add_weights}
use Rattle.hd_picture.specs.inner.TriangleSetup.{IsArea}
use Rattle.hd_picture.specs.inner.View.{IsScreenTriangle}
use Rattle.hd_picture.specs.inner.Window.{IsWindow, pixel_center_at, tile_pixel_center}
use Rattle.hd_picture.proofs.TileLemmas.{rasterized_nowhere}
use Rattle.hd_picture.proofs.CornerOrder.{mirror_image_weights}
use Rattle.hd_picture.proofs.CoverageLemmas.{IsNonPositive, covers_cases, fragment_none}
use Rattle.hd_picture.proofs.CrossProduct.{read}
use Rattle.hd_picture.proofs.FloorDivision.{IsNonNegative, depth_least, depth_most}
use Rattle.hd_picture.proofs.DepthFractionLemmas.{floor_in_reach}
use Rattle.hd_picture.proofs.PixelLemmas.{in_reach, same_weights}
use Rattle.hd_picture.proofs.Offsets.{AreEdges, are_edges, change, center_at_near, total-same, offset_to, weight_change_within, depth_sum-add_weights, depth_sum_within, weights-offset_to, weights_small}

abbrev pub screen_triangle_of : Vec3 → WorldTri → ScreenTriangle
screen_triangle_of eye tri = record { a = screen_point eye tri.a; b = screen_point eye tri.b; c = screen_point eye tri.c }

-- the weights at a point near the center are in reach
pub screen_small : (eye : Vec3) (tri : WorldTri) (q : ScreenPoint) → IsPointWithin (2 ^ 30) eye → IsTriWithin (2 ^ 24) tri → IsNearCenter q → IsSmall (screen_weights eye tri q)
screen_small eye tri q he ht hq =
    weights_small (screen_point eye tri.a) (screen_point eye tri.b) (screen_point eye tri.c) q
    (in_reach eye tri (screen_triangle_of eye tri) q (record { at_a = refl; at_b = refl; at_c = refl }) he ht hq)

-- the weights by the corners as they are seen
pub first_weights : (eye : Vec3) (tri : WorldTri) (screen : ScreenTriangle) (p q : ScreenPoint) (v : Weights) → IsScreenTriangle eye tri screen → v ≡ weights screen.a screen.b screen.c p → p ≡ q → v ≡ screen_weights eye tri q
first_weights eye tri screen p q v h e same = e ∙ same_weights eye tri screen p h ∙ ap (screen_weights eye tri) same

-- the sum of weights as the code adds them
pub area_read : (w : Weights) → IsSmall w → read (read (read w.a +ℤ read w.b) +ℤ read w.c) ≡ total w
area_read w h = omega (arith, ints)

-- the weights at a pixel, and its remainder, are in reach
pub edge_values_in_reach : (eye : Vec3) (tri : WorldTri) (area : ℤ) (w : Window) (x y : ℕ) (at : EdgeValues) → IsPointWithin (2 ^ 30) eye → IsTriWithin (2 ^ 24) tri → IsWindow w → x ≤ 16 → y ≤ 16
    → AreEdgeValues eye tri area (pixel_center_at w x y) at → IsWithin (2 ^ 62) at.depth.whole → AreEdgeValuesInReach area at
edge_values_in_reach eye tri area w x y at he ht hw hx hy values whole = record {
  weights = subst IsSmall (sym values.weights) (screen_small eye tri (pixel_center_at w x y) he ht (center_at_near w x y hw hx hy));
  remainder = values.remainder;
  whole = whole;
}

-- one area for all points
pub area_of : (eye : Vec3) (tri : WorldTri) (p : ScreenPoint) (area : ℤ) → total (screen_weights eye tri p) ≡ area → IsArea eye tri area
area_of eye tri p area e = λ q. total-same (screen_point eye tri.a) (screen_point eye tri.b) (screen_point eye tri.c) p q ∙ e

-- corners in the other order have the other sign
pub total-mirror_image : (eye : Vec3) (tri : WorldTri) (q : ScreenPoint) → total (screen_weights eye (mirror_image tri) q) ≡ neg_ℤ (total (screen_weights eye tri q))
total-mirror_image eye tri q =
    ap total (mirror_image_weights (screen_point eye tri.a) (screen_point eye tri.b) (screen_point eye tri.c) q) ∙ flipped (screen_weights eye tri q)
  where
    flipped : (w : Weights) → neg_ℤ w.a +ℤ neg_ℤ w.c +ℤ neg_ℤ w.b ≡ neg_ℤ (total w)
    flipped w = omega (arith, ints)

-- the changes of the weights from one pixel of a tile to another are small
change_small : (w : Window) (a b c : ScreenPoint) (k : ℕ) → AreEdges a b c → k < 256 → (tri : WorldTri) → IsTriWithin (2 ^ 24) tri
    → IsWithin (2 ^ 58) (depth_sum (change a b c (offset_to (tile_pixel_center w k) (tile_pixel_center w 0))) tri)
change_small w a b c k edges h tri near =
    let offset = offset_to (tile_pixel_center w k) (tile_pixel_center w 0) in
    let x : IsWithin 30 offset.x = record { low = omega (arith, ints); high = omega (arith, ints) } in
    let y : IsWithin 30 offset.y = record { low = omega (arith, ints); high = omega (arith, ints) } in
    depth_sum_within (2 ^ 26 * 30 + 2 ^ 26 * 30) (2 ^ 58) (change a b c offset) tri
    (weight_change_within 30 b c offset edges.bc x y) (weight_change_within 30 c a offset edges.ca x y) (weight_change_within 30 a b offset edges.ab x y)
    near (omega arith)

-- where the plane is out of reach at a tile's first pixel the triangle covers none
module _ (eye : Vec3) (w : Window) (tri : WorldTri) (area : ℤ) (p : pos 0 <ℤ area) (same : IsArea eye tri area) (near : IsTriWithin (2 ^ 24) tri)
    (far : ¬ (IsWithin (2 ^ 60) (floor_div (depth_sum (screen_weights eye tri (tile_pixel_center w 0)) tri) area))) where
  depth_near : (v : Weights) → IsNonNegative v → total v ≡ area → IsWithin (2 ^ 24) (floor_div (depth_sum v tri) area)
  unfolding depth
  depth_near v counter_clockwise e = rw (sym e) (record {
    low = depth_least v tri counter_clockwise (neg_ℤ (pos (2 ^ 24))) near.a.z.low near.b.z.low near.c.z.low;
    high = depth_most v tri counter_clockwise (pos (2 ^ 24)) near.a.z.high near.b.z.high near.c.z.high;
  })

  not_left : (k : ℕ) → k < 256 → IsNonNegative (screen_weights eye tri (tile_pixel_center w k)) → ⊥
  not_left k h counter_clockwise =
      let v = screen_weights eye tri (tile_pixel_center w k) in
      let offset = offset_to (tile_pixel_center w k) (tile_pixel_center w 0) in
      let c = change (screen_point eye tri.a) (screen_point eye tri.b) (screen_point eye tri.c) offset in
      let e : screen_weights eye tri (tile_pixel_center w 0) ≡ add_weights v c = weights-offset_to (screen_point eye tri.a) (screen_point eye tri.b) (screen_point eye tri.c) (tile_pixel_center w k) (tile_pixel_center w 0) in
      let edges = are_edges eye tri (screen_triangle_of eye tri) (record { at_a = refl; at_b = refl; at_c = refl }) near in
      let small = change_small w (screen_point eye tri.a) (screen_point eye tri.b) (screen_point eye tri.c) k edges h tri near in
      far (rw (ap (λ (x : Weights). depth_sum x tri) e ∙ depth_sum-add_weights v c tri) (floor_in_reach (depth_sum v tri) (depth_sum c tri) area p (depth_near v counter_clockwise (same (tile_pixel_center w k))) small))

  uncovered : (k : ℕ) → k < 256 → covers (screen_weights eye tri (tile_pixel_center w k)) ≡ false
  uncovered k h = by (covers (screen_weights eye tri (tile_pixel_center w k))) refl
    where
      by_side : IsNonNegative (screen_weights eye tri (tile_pixel_center w k)) ⊎ IsNonPositive (screen_weights eye tri (tile_pixel_center w k)) → ⊥
      by_side (inl l) = not_left k h l
      by_side (inr r) = let n = r.area in let e = same (tile_pixel_center w k) in omega (arith, ints)

      by : (t : Bool) → covers (screen_weights eye tri (tile_pixel_center w k)) ≡ t → t ≡ false
      by true e = absurd (by_side (covers_cases (screen_weights eye tri (tile_pixel_center w k)) e))
      by false e = refl

  pub rasterized_far : (depth_buffer : List Fragment) → IsRasterized eye w tri depth_buffer depth_buffer
  rasterized_far depth_buffer = rasterized_nowhere depth_buffer eye w tri (λ k h. fragment_none eye (tile_pixel_center w k) tri (uncovered k h))
