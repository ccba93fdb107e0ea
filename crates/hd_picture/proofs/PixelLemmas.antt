-- One more triangle of the list.
use Rattle.std.proofs.Common.{◌≡◌, ℕ, ◌+◌, ◌<◌, ◌≤◌, ◌^◌, arith, ap, refl, sym, subst, ◌∙◌, false, pos, ◌-ℤ◌, ◌*ℤ◌, List, [], ◌∷◌, ◌++◌, length, get_or, take, None, Some, Option, filter_map}
use Rattle.std.specs.Option.{option_map_or}
use Rattle.std.proofs.lemmas.Int.{ints}
use Rattle.std.proofs.lemmas.Grind.{take_at_read}
use Rattle.std.proofs.lemmas.List.{take_all}
use Rattle.std.proofs.lemmas.List.Elements.{filter_map-append}
use Rattle.hd_num.specs.declared.vector.Vec3.{Vec3}
use Rattle.hd_picture.specs.declared.draws.Draws.{Draws}
use Rattle.hd_picture.specs.declared.draws.WorldTri.{WorldTri}
use Rattle.hd_picture.specs.declared.define.coverage.Weights.{Weights}
use Rattle.hd_picture.specs.declared.define.pixels.Fragment.{Fragment}
use Rattle.hd_picture.specs.declared.define.view.ScreenTriangle.{ScreenTriangle}
use Rattle.hd_picture.specs.declared.define.view.ScreenPoint.{ScreenPoint}
use Rattle.hd_picture.specs.Limits.{IsFrameSize, IsPointWithin, IsTriWithin}
use Rattle.hd_picture.specs.define.Coverage.{covers, screen_weights, weights}
use Rattle.hd_picture.specs.define.Pixels.{black, fragment, fragments, nearest, pixel}
use Rattle.hd_picture.specs.define.View.{pixel_center, screen_point}
use Rattle.hd_picture.specs.inner.Coverage.{IsCounterClockwiseOf, IsEdgeInReach, IsInReach, IsNearCenter}
use Rattle.hd_picture.specs.inner.Pixels.{fragment_by, nearer}
use Rattle.hd_picture.specs.inner.View.{IsScreenTriangle}
use Rattle.hd_picture.specs.raster.Bounds.{IsInBounds}
use Rattle.hd_picture.proofs.BoundsLemmas.{outside_bounds}
use Rattle.hd_picture.proofs.CoverageLemmas.{fragment_counter_clockwise, fragment_none}
use Rattle.hd_picture.proofs.NearestLemmas.{nearest-append}

-- the corners of a drawable triangle are in reach of each point of the frame
edge_in_reach : (eye p r : Vec3) (a b q : ScreenPoint) → a ≡ screen_point eye p → b ≡ screen_point eye r
    → IsPointWithin (2 ^ 30) eye → IsPointWithin (2 ^ 24) p → IsPointWithin (2 ^ 24) r → IsNearCenter q → IsEdgeInReach a b q
edge_in_reach eye p r a b q ea eb he hp hr hq =
    let ax : a.x ≡ pos 2 *ℤ (p.x -ℤ eye.x) = ap (λ (z : ScreenPoint). z.x) ea in
    let ay : a.y ≡ pos 2 *ℤ (p.y -ℤ eye.y) = ap (λ (z : ScreenPoint). z.y) ea in
    let bx : b.x ≡ pos 2 *ℤ (r.x -ℤ eye.x) = ap (λ (z : ScreenPoint). z.x) eb in
    let by : b.y ≡ pos 2 *ℤ (r.y -ℤ eye.y) = ap (λ (z : ScreenPoint). z.y) eb in
    record {
      along_x = record { low = omega (arith, ints); high = omega (arith, ints) };
      along_y = record { low = omega (arith, ints); high = omega (arith, ints) };
      from_x = record { low = omega (arith, ints); high = omega (arith, ints) };
      from_y = record { low = omega (arith, ints); high = omega (arith, ints) };
    }

module _ (eye : Vec3) (tri : WorldTri) (at : ScreenTriangle) (q : ScreenPoint) (screen : IsScreenTriangle eye tri at) where
  pub in_reach : IsPointWithin (2 ^ 30) eye → IsTriWithin (2 ^ 24) tri → IsNearCenter q → IsInReach at.a at.b at.c q
  in_reach he ht hq = record {
    ab = edge_in_reach eye tri.a tri.b at.a at.b q screen.at_a screen.at_b he ht.a ht.b hq;
    bc = edge_in_reach eye tri.b tri.c at.b at.c q screen.at_b screen.at_c he ht.b ht.c hq;
    ca = edge_in_reach eye tri.c tri.a at.c at.a q screen.at_c screen.at_a he ht.c ht.a hq;
  }

  pub same_weights : weights at.a at.b at.c q ≡ screen_weights eye tri q
  same_weights = rw (screen.at_a, screen.at_b, screen.at_c)

  pub none_outside : ¬ (IsInBounds at.a at.b at.c q) → fragment eye q tri ≡ None
  none_outside out = fragment_none eye q tri (ap covers (sym same_weights) ∙ outside_bounds at.a at.b at.c q out)

  pub none_uncovered : (w : Weights) → w ≡ weights at.a at.b at.c q → covers w ≡ false → fragment eye q tri ≡ None
  none_uncovered w e h = fragment_none eye q tri (ap covers (sym (e ∙ same_weights)) ∙ h)

  pub fragment_is_by : (w counter_clockwise : Weights) → w ≡ weights at.a at.b at.c q → IsCounterClockwiseOf w counter_clockwise → fragment eye q tri ≡ fragment_by counter_clockwise tri eye.z
  fragment_is_by w counter_clockwise e h = fragment_counter_clockwise eye q tri counter_clockwise (let P : Weights → Type 0 = λ v. IsCounterClockwiseOf v counter_clockwise in subst P (e ∙ same_weights) h)

-- a point of the frame
pub center_near : (w h x y : ℕ) → IsFrameSize w → IsFrameSize h → x < 1024 → y < 1024 → IsNearCenter (pixel_center w h x y)
center_near w h x y hw hh hx hy = record {
  x = record { low = omega (arith, ints); high = omega (arith, ints) };
  y = record { low = omega (arith, ints); high = omega (arith, ints) };
}

append_nil : {X : Type 0} → (xs : List X) → xs ++ [] ≡ xs
append_nil [] = refl
append_nil (x ∷ xs) = ap (λ ys. x ∷ ys) (append_nil xs)

-- the nearest after one more triangle
pub nearest_more : (eye : Vec3) (q : ScreenPoint) (tris : List WorldTri) (tri : WorldTri)
    → nearest (fragments eye q (tris ++ tri ∷ [])) ≡ nearer (nearest (fragments eye q tris)) (fragment eye q tri)
nearest_more eye q tris tri = rw (filter_map-append (fragment eye q) tris (tri ∷ [])) (by (fragment eye q tri))
  where
    fs : List Fragment
    fs = fragments eye q tris

    by : (o : Option Fragment) → nearest (filter_map (fragment eye q) tris ++ filter_map (λ (t : WorldTri). o) (tri ∷ [])) ≡ nearer (nearest (filter_map (fragment eye q) tris)) o
    by None = ap nearest (append_nil (filter_map (fragment eye q) tris))
    by (Some f) = nearest-append (filter_map (fragment eye q) tris) f

-- a loop's step: the same of one more triangle of a list
pub nearest_step : {best next : Option Fragment} (eye : Vec3) (q : ScreenPoint) (tris : List WorldTri) (i : ℕ) (d : WorldTri)
    → next ≡ nearer best (fragment eye q (get_or tris i d)) → i < length tris
    → best ≡ nearest (fragments eye q (take i tris)) → next ≡ nearest (fragments eye q (take (i + 1) tris))
nearest_step eye q tris i d e l before =
    e ∙ ap (λ b. nearer b (fragment eye q (get_or tris i d))) before
    ∙ sym (ap (λ ts. nearest (fragments eye q ts)) (take_at_read tris i d l).1 ∙ nearest_more eye q (take i tris) (get_or tris i d))

-- the nearest of all triangles at a pixel's center gives its color
pub pixel_is : (draws : Draws) (x y : ℕ) (q : ScreenPoint) (tris : List WorldTri) (i : ℕ) (best : Option Fragment)
    → q ≡ pixel_center draws.width draws.height x y → tris ≡ draws.tris → length tris ≤ i
    → best ≡ nearest (fragments draws.eye q (take i tris))
    → option_map_or (λ (f : Fragment). f.color) best black ≡ pixel draws x y
unfolding pixel
pixel_is draws x y q tris i best eq et l eb = rw (eb, take_all i tris l, et, eq)
