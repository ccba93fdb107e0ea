-- How the weights of a triangle change by an offset, and the centers of a tile's pixels.
use Rattle.std.proofs.Common.{◌≡◌, ℕ, ◌+◌, ◌*◌, ◌<◌, ◌≤◌, ◌^◌, arith, ap, ◌∙◌, sym, ℤ, pos, ◌+ℤ◌, ◌-ℤ◌, ◌*ℤ◌, ◌%◌, ◌/◌}
use Rattle.std.proofs.lemmas.Int.{ints}
use borrow.Author.Differences.{same_in, sum_is_lem, neg_is}
use Rattle.hd_num.specs.declared.vector.Vec3.{Vec3}
use Rattle.hd_picture.specs.declared.draws.WorldTri.{WorldTri}
use Rattle.hd_picture.specs.declared.define.coverage.Weights.{Weights}
use Rattle.hd_picture.specs.declared.define.view.ScreenTriangle.{ScreenTriangle}
use Rattle.hd_picture.specs.declared.define.view.ScreenPoint.{ScreenPoint}
use Rattle.hd_picture.specs.declared.raster.window.Window.{Window}
use Rattle.hd_picture.specs.Limits.{IsPointWithin, IsTriWithin, IsWithin}
use Rattle.hd_picture.specs.define.Coverage.{edge, total, weights}
use Rattle.hd_picture.specs.define.View.{screen_point}
use Rattle.hd_picture.specs.inner.Coverage.{IsEdgeInReach, IsInReach, IsNearCenter, IsSmall}
use Rattle.hd_picture.specs.inner.Depth.{depth_sum}
use Rattle.hd_picture.specs.inner.EdgeStepping.{IsEdge, add_weights, offset_point, weight_change}
use Rattle.hd_picture.specs.inner.View.{IsScreenTriangle}
use Rattle.hd_picture.specs.inner.Window.{IsWindow, pixel_center_at, tile_pixel_center}
use Rattle.hd_picture.proofs.Integers.{IsWithin-product, IsWithin-sub, add-mul, mul-add, sub-mul}

pub edge-offset_point : (a b q offset : ScreenPoint) → edge a b (offset_point q offset) ≡ edge a b q +ℤ weight_change a b offset
unfolding edge weight_change
edge-offset_point a b q offset = ring a.x a.y b.x b.y q.x q.y offset.x offset.y
  where
    ring : (ax ay bx by qx qy wx wy : ℤ)
        → (bx -ℤ ax) *ℤ (qy +ℤ wy -ℤ ay) -ℤ (by -ℤ ay) *ℤ (qx +ℤ wx -ℤ ax)
        ≡ (bx -ℤ ax) *ℤ (qy -ℤ ay) -ℤ (by -ℤ ay) *ℤ (qx -ℤ ax) +ℤ ((bx -ℤ ax) *ℤ wy -ℤ (by -ℤ ay) *ℤ wx)
    ring ax ay bx by qx qy wx wy =
        let y : qy +ℤ wy -ℤ ay ≡ (qy -ℤ ay) +ℤ wy = omega (arith, ints) in
        let x : qx +ℤ wx -ℤ ax ≡ (qx -ℤ ax) +ℤ wx = omega (arith, ints) in
        rw (y, x, mul-add (bx -ℤ ax) (qy -ℤ ay) wy, mul-add (by -ℤ ay) (qx -ℤ ax) wx) (omega (arith, ints))

-- the changes of a triangle's weights by an offset
abbrev pub change : (a b c offset : ScreenPoint) → Weights
change a b c offset = record { a = weight_change b c offset; b = weight_change c a offset; c = weight_change a b offset }

pub weights-offset_point : (a b c q offset : ScreenPoint) → weights a b c (offset_point q offset) ≡ add_weights (weights a b c q) (change a b c offset)
weights-offset_point a b c q offset = rw (edge-offset_point b c q offset, edge-offset_point c a q offset, edge-offset_point a b q offset)

-- they add up to nothing, so that the area is the same at each point
total-change : (a b c offset : ScreenPoint) → total (change a b c offset) ≡ pos 0
unfolding weight_change
total-change a b c offset = ring a.x a.y b.x b.y c.x c.y offset.x offset.y
  where
    ring : (ax ay bx by cx cy wx wy : ℤ)
        → ((cx -ℤ bx) *ℤ wy -ℤ (cy -ℤ by) *ℤ wx) +ℤ ((ax -ℤ cx) *ℤ wy -ℤ (ay -ℤ cy) *ℤ wx) +ℤ ((bx -ℤ ax) *ℤ wy -ℤ (by -ℤ ay) *ℤ wx) ≡ pos 0
    ring ax ay bx by cx cy wx wy = simp sub-mul (omega (arith, same_in, sum_is_lem, neg_is))

-- the offset from one point to another
abbrev pub offset_to : (p q : ScreenPoint) → ScreenPoint
offset_to p q = record { x = q.x -ℤ p.x; y = q.y -ℤ p.y }

pub offset_point-offset_to : (p q : ScreenPoint) → offset_point p (offset_to p q) ≡ q
offset_point-offset_to p q =
    let x : p.x +ℤ (q.x -ℤ p.x) ≡ q.x = omega (arith, ints) in
    let y : p.y +ℤ (q.y -ℤ p.y) ≡ q.y = omega (arith, ints) in
    rw (x, y)

pub weights-offset_to : (a b c p q : ScreenPoint) → weights a b c q ≡ add_weights (weights a b c p) (change a b c (offset_to p q))
weights-offset_to a b c p q = sym (ap (weights a b c) (offset_point-offset_to p q)) ∙ weights-offset_point a b c p (offset_to p q)

pub total-same : (a b c p q : ScreenPoint) → total (weights a b c q) ≡ total (weights a b c p)
total-same a b c p q =
    let none = total-change a b c (offset_to p q) in
    ap total (weights-offset_to a b c p q) ∙ sums (weights a b c p) (change a b c (offset_to p q)) none
  where
    sums : (v w : Weights) → total w ≡ pos 0 → total (add_weights v w) ≡ total v
    sums v w h = omega (arith, ints)

pub depth_sum-add_weights : (v w : Weights) (tri : WorldTri) → depth_sum (add_weights v w) tri ≡ depth_sum v tri +ℤ depth_sum w tri
depth_sum-add_weights v w tri =
    rw (add-mul v.a w.a tri.a.z, add-mul v.b w.b tri.b.z, add-mul v.c w.c tri.c.z) (omega (arith, ints))

-- bounds
pub depth_sum_within : (m n : ℕ) (w : Weights) (tri : WorldTri) → IsWithin m w.a → IsWithin m w.b → IsWithin m w.c → IsTriWithin (2 ^ 24) tri → m * 2 ^ 24 * 3 ≤ n → IsWithin n (depth_sum w tri)
depth_sum_within m n w tri ha hb hc h l =
    let a = IsWithin-product m (2 ^ 24) w.a tri.a.z ha h.a.z in
    let b = IsWithin-product m (2 ^ 24) w.b tri.b.z hb h.b.z in
    let c = IsWithin-product m (2 ^ 24) w.c tri.c.z hc h.c.z in
    record { low = omega (arith, ints); high = omega (arith, ints) }

pub weight_change_within : (n : ℕ) (a b offset : ScreenPoint) → IsEdge a b → IsWithin n offset.x → IsWithin n offset.y → IsWithin (2 ^ 26 * n + 2 ^ 26 * n) (weight_change a b offset)
unfolding weight_change
weight_change_within n a b offset h x y =
    IsWithin-sub (2 ^ 26 * n) (2 ^ 26 * n) _ _
    (IsWithin-product (2 ^ 26) n (b.x -ℤ a.x) offset.y h.along_x y)
    (IsWithin-product (2 ^ 26) n (b.y -ℤ a.y) offset.x h.along_y x)

edge_within : (a b q : ScreenPoint) → IsEdgeInReach a b q → IsWithin (2 ^ 59) (edge a b q)
unfolding edge
edge_within a b q h =
    IsWithin-sub (2 ^ 58) (2 ^ 58) _ _
    (IsWithin-product (2 ^ 26) (2 ^ 32) (b.x -ℤ a.x) (q.y -ℤ a.y) h.along_x h.from_y)
    (IsWithin-product (2 ^ 26) (2 ^ 32) (b.y -ℤ a.y) (q.x -ℤ a.x) h.along_y h.from_x)

pub weights_small : (a b c q : ScreenPoint) → IsInReach a b c q → IsSmall (weights a b c q)
weights_small a b c q h = record { a = edge_within b c q h.bc; b = edge_within c a q h.ca; c = edge_within a b q h.ab }

-- the edges of a triangle that can be drawn
is_edge : (eye p r : Vec3) (a b : ScreenPoint) → a ≡ screen_point eye p → b ≡ screen_point eye r → IsPointWithin (2 ^ 24) p → IsPointWithin (2 ^ 24) r → IsEdge a b
is_edge eye p r a b ea eb hp hr =
    let ax : a.x ≡ pos 2 *ℤ (p.x -ℤ eye.x) = ap (λ (z : ScreenPoint). z.x) ea in
    let ay : a.y ≡ pos 2 *ℤ (p.y -ℤ eye.y) = ap (λ (z : ScreenPoint). z.y) ea in
    let bx : b.x ≡ pos 2 *ℤ (r.x -ℤ eye.x) = ap (λ (z : ScreenPoint). z.x) eb in
    let by : b.y ≡ pos 2 *ℤ (r.y -ℤ eye.y) = ap (λ (z : ScreenPoint). z.y) eb in
    record {
      along_x = record { low = omega (arith, ints); high = omega (arith, ints) };
      along_y = record { low = omega (arith, ints); high = omega (arith, ints) };
    }

pub record AreEdges (a b c : ScreenPoint) : Type 0 where
  pub ab : IsEdge a b
  pub bc : IsEdge b c
  pub ca : IsEdge c a

pub are_edges : (eye : Vec3) (tri : WorldTri) (at : ScreenTriangle) → IsScreenTriangle eye tri at → IsTriWithin (2 ^ 24) tri → AreEdges at.a at.b at.c
are_edges eye tri at screen h = record {
  ab = is_edge eye tri.a tri.b at.a at.b screen.at_a screen.at_b h.a h.b;
  bc = is_edge eye tri.b tri.c at.b at.c screen.at_b screen.at_c h.b h.c;
  ca = is_edge eye tri.c tri.a at.c at.a screen.at_c screen.at_a h.c h.a;
}

-- the centers of a tile's pixels, and those just beside it
pub center_right : (w : Window) (x y : ℕ) → offset_point (pixel_center_at w x y) (record { x = pos 2; y = pos 0 }) ≡ pixel_center_at w (x + 1) y
center_right w x y =
    let ex : (pixel_center_at w x y).x +ℤ pos 2 ≡ (pixel_center_at w (x + 1) y).x = omega (arith, ints) in
    let ey : (pixel_center_at w x y).y +ℤ pos 0 ≡ (pixel_center_at w (x + 1) y).y = omega (arith, ints) in
    rw (ex, ey)

pub center_below : (w : Window) (x y : ℕ) → offset_point (pixel_center_at w x y) (record { x = pos 0; y = pos 0 -ℤ pos 2 }) ≡ pixel_center_at w x (y + 1)
center_below w x y =
    let ex : (pixel_center_at w x y).x +ℤ pos 0 ≡ (pixel_center_at w x (y + 1)).x = omega (arith, ints) in
    let ey : (pixel_center_at w x y).y +ℤ (pos 0 -ℤ pos 2) ≡ (pixel_center_at w x (y + 1)).y = omega (arith, ints) in
    rw (ex, ey)

pub tile_center_is : (w : Window) (k x y : ℕ) → k ≡ y * 16 + x → x < 16 → tile_pixel_center w k ≡ pixel_center_at w x y
tile_center_is w k x y e h =
    let column : k % 16 ≡ x = omega arith in
    let row : k / 16 ≡ y = omega arith in
    rw (column, row)

pub center_at_near : (w : Window) (x y : ℕ) → IsWindow w → x ≤ 16 → y ≤ 16 → IsNearCenter (pixel_center_at w x y)
center_at_near w x y h hx hy =
    let a = h.width in
    let b = h.height in
    record {
      x = record { low = omega (arith, ints); high = omega (arith, ints) };
      y = record { low = omega (arith, ints); high = omega (arith, ints) };
    }
