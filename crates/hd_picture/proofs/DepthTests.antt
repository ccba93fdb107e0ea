-- The nearest fragment after one more triangle.
use Rattle.std.proofs.Common.{◌≡◌, ◌∙◌, ap, ◌⊎◌, inl, inr, arith, refl, sym, Bool, true, false, cond, ℤ, ◌^◌, pos, neg_ℤ, ◌+ℤ◌, ◌≤ℤ◌, ◌<ℤ◌, int_le, int_lt, None, Some, Option}
use Rattle.std.proofs.lemmas.Int.{by_lt_z, clamps, ints}
use Rattle.std.specs.Int.{int_min}
use Rattle.std.specs.Option.{option_map_or}
use Rattle.hd_picture.specs.declared.draws.WorldTri.{WorldTri}
use Rattle.hd_picture.specs.declared.define.coverage.Weights.{Weights}
use Rattle.hd_picture.specs.declared.define.pixels.Fragment.{Fragment}
use Rattle.hd_picture.specs.Limits.{IsTriWithin}
use Rattle.hd_picture.specs.define.Coverage.{covers, screen_weights}
use Rattle.hd_picture.specs.define.Depth.{depth}
use Rattle.hd_picture.specs.define.Pixels.{black, fragment}
use Rattle.hd_picture.specs.inner.Depth.{max_depth}
use Rattle.hd_picture.specs.inner.DepthBuffer.{depth_test, or_background}
use Rattle.hd_picture.specs.inner.Pixels.{fragment_by, hides, nearer}
use Rattle.hd_picture.specs.raster.Bounds.{IsBetween}
use Rattle.hd_num.specs.declared.vector.Vec3.{Vec3}
use Rattle.hd_picture.specs.declared.define.view.ScreenPoint.{ScreenPoint}
use Rattle.hd_picture.proofs.CoverageLemmas.{IsNonPositive, covers_cases, depth-negate_weights, fragment_is, negate_weights}
use Rattle.hd_picture.proofs.FloorDivision.{IsNonNegative, depth_least, depth_most}

-- what hides a depth hides a smaller one
hides_less : (best : Option Fragment) (d e : ℤ) → e ≤ℤ d → hides best d ≡ true → hides best e ≡ true
hides_less None d e l h = h
hides_less (Some f) d e l h = sym (let g : int_le d f.depth ≡ true = h in let k : true ≡ int_le e f.depth = omega (arith, ints) in k)

hidden : (best : Option Fragment) (f : Fragment) → hides best f.depth ≡ true → nearer best (Some f) ≡ best
hidden best f h = rw h

-- a triangle whose depth the best one hides changes nothing
pub nearer_hidden : (best : Option Fragment) (w : Weights) (tri : WorldTri) (eye_z : ℤ) → hides best (depth w tri) ≡ true → nearer best (fragment_by w tri eye_z) ≡ best
nearer_hidden best w tri eye_z h = by (int_le (depth w tri) eye_z)
  where
    by : (t : Bool) → nearer best (cond t (Some (record { depth = depth w tri; color = tri.color })) None) ≡ best
    by true = hidden best (record { depth = depth w tri; color = tri.color }) h
    by false = refl

-- what a triangle covers is not nearer than its nearest corner
covered_most : (w : Weights) (tri : WorldTri) → covers w ≡ true → depth w tri ≤ℤ max_depth tri
covered_most w tri h = by (covers_cases w h)
  where
    by : IsNonNegative w ⊎ IsNonPositive w → depth w tri ≤ℤ max_depth tri
    by (inl l) = depth_most w tri l (max_depth tri) (omega (arith, ints, clamps)) (omega (arith, ints, clamps)) (omega (arith, ints, clamps))
    by (inr r) =
        let l : IsNonNegative (negate_weights w) = record { a = omega (arith, ints); b = omega (arith, ints); c = omega (arith, ints); area = omega (arith, ints) } in
        let same : depth (negate_weights w) tri ≡ depth w tri = depth-negate_weights w tri (λ e. omega (arith, ints)) in
        rw (sym same) (depth_most (negate_weights w) tri l (max_depth tri) (omega (arith, ints, clamps)) (omega (arith, ints, clamps)) (omega (arith, ints, clamps)))

pub nearer_below_highest : (best : Option Fragment) (eye : Vec3) (q : ScreenPoint) (tri : WorldTri) → hides best (max_depth tri) ≡ true → nearer best (fragment eye q tri) ≡ best
nearer_below_highest best eye q tri h = ap (nearer best) (fragment_is eye q tri) ∙ by (covers (screen_weights eye tri q)) refl
  where
    w : Weights
    w = screen_weights eye tri q

    by : (t : Bool) → covers w ≡ t → nearer best (cond t (fragment_by w tri eye.z) None) ≡ best
    by true e = nearer_hidden best w tri eye.z (hides_less best (max_depth tri) (depth w tri) (covered_most w tri e) h)
    by false e = refl

-- a triangle beyond the eye changes nothing
pub nearer_after : (best : Option Fragment) (w : Weights) (tri : WorldTri) (eye_z : ℤ) → eye_z <ℤ depth w tri → nearer best (fragment_by w tri eye_z) ≡ best
nearer_after best w tri eye_z l =
    let e : false ≡ int_le (depth w tri) eye_z = omega (arith, ints) in
    rw (sym e)

-- a triangle that is seen and not hidden is the nearest
pub nearer_seen : (best : Option Fragment) (w : Weights) (tri : WorldTri) (eye_z : ℤ) → depth w tri ≤ℤ eye_z → hides best (depth w tri) ≡ false
    → nearer best (fragment_by w tri eye_z) ≡ Some (record { depth = depth w tri; color = tri.color })
nearer_seen best w tri eye_z l h =
    let e : true ≡ int_le (depth w tri) eye_z = omega (arith, ints) in
    rw (sym e, h)

-- what a triangle covers is not farther than its farthest corner
covered_least : (w : Weights) (tri : WorldTri) (m : ℤ) → covers w ≡ true → m ≤ℤ tri.a.z → m ≤ℤ tri.b.z → m ≤ℤ tri.c.z → m ≤ℤ depth w tri
covered_least w tri m h ha hb hc = by (covers_cases w h)
  where
    by : IsNonNegative w ⊎ IsNonPositive w → m ≤ℤ depth w tri
    by (inl l) = depth_least w tri l m ha hb hc
    by (inr r) =
        let l : IsNonNegative (negate_weights w) = record { a = omega (arith, ints); b = omega (arith, ints); c = omega (arith, ints); area = omega (arith, ints) } in
        let same : depth (negate_weights w) tri ≡ depth w tri = depth-negate_weights w tri (λ e. omega (arith, ints)) in
        rw (sym same) (depth_least (negate_weights w) tri l m ha hb hc)

pub depth_between : (w : Weights) (tri : WorldTri) → covers w ≡ true → IsBetween tri.a.z tri.b.z tri.c.z (depth w tri)
depth_between w tri h = record {
  least = covered_least w tri (int_min tri.a.z (int_min tri.b.z tri.c.z)) h (omega (arith, ints, clamps)) (omega (arith, ints, clamps)) (omega (arith, ints, clamps));
  greatest = covered_most w tri h;
}

pub flat_has_one_depth : (w : Weights) (tri : WorldTri) → tri.a.z ≡ tri.b.z → tri.b.z ≡ tri.c.z → covers w ≡ true → depth w tri ≡ tri.a.z
flat_has_one_depth w tri ab bc h =
    let between = depth_between w tri h in
    let low = between.least in
    let high = between.greatest in
    omega (arith, ints, clamps)

-- what is beyond the eye shows nothing
pub beyond_shows_nothing : (eye : Vec3) (q : ScreenPoint) (tri : WorldTri) → eye.z <ℤ tri.a.z → eye.z <ℤ tri.b.z → eye.z <ℤ tri.c.z → fragment eye q tri ≡ None
beyond_shows_nothing eye q tri ha hb hc = fragment_is eye q tri ∙ by (covers w) refl
  where
    w : Weights
    w = screen_weights eye tri q

    by : (t : Bool) → covers w ≡ t → cond t (fragment_by w tri eye.z) None ≡ None
    by true e =
        let low = covered_least w tri (eye.z +ℤ pos 1) e (omega (arith, ints)) (omega (arith, ints)) (omega (arith, ints)) in
        let beyond : false ≡ int_le (depth w tri) eye.z = omega (arith, ints) in
        rw (sym beyond)
    by false e = refl

-- a fragment that hides all of a triangle stays
pub depth_test_below : (held : Fragment) (eye : Vec3) (q : ScreenPoint) (tri : WorldTri) → max_depth tri ≤ℤ held.depth → depth_test held (fragment eye q tri) ≡ held
depth_test_below held eye q tri h = ap (depth_test held) (fragment_is eye q tri) ∙ by (covers w) refl
  where
    w : Weights
    w = screen_weights eye tri q

    by : (t : Bool) → covers w ≡ t → depth_test held (cond t (fragment_by w tri eye.z) None) ≡ held
    by true e = by_seen (int_le (depth w tri) eye.z)
      where
        by_seen : (t : Bool) → depth_test held (cond t (Some (record { depth = depth w tri; color = tri.color })) None) ≡ held
        by_seen true =
            let m = covered_most w tri e in
            let less : false ≡ int_lt held.depth (depth w tri) = omega (arith, ints) in
            rw (sym less)
        by_seen false = refl
    by false e = refl

-- one more fragment in a pixel's place is one more for the nearest
depth_test_more : (best : Option Fragment) (f : Fragment) → neg_ℤ (pos (2 ^ 24)) ≤ℤ f.depth → depth_test (or_background best) (Some f) ≡ or_background (nearer best (Some f))
depth_test_more None f h =
    let less : true ≡ int_lt (neg_ℤ (pos (2 ^ 25))) f.depth = omega (arith, ints) in
    rw (sym less)
depth_test_more (Some g) f h =
    by_lt_z g.depth f.depth
    (λ l.
    let less : true ≡ int_lt g.depth f.depth = omega (arith, ints) in
    let open' : false ≡ int_le f.depth g.depth = omega (arith, ints) in
    rw (sym less, sym open'))
    (λ l.
    let less : false ≡ int_lt g.depth f.depth = omega (arith, ints) in
    let hides' : true ≡ int_le f.depth g.depth = omega (arith, ints) in
    rw (sym less, sym hides'))

pub depth_test_nearest : (best : Option Fragment) (eye : Vec3) (q : ScreenPoint) (tri : WorldTri) → IsTriWithin (2 ^ 24) tri → depth_test (or_background best) (fragment eye q tri) ≡ or_background (nearer best (fragment eye q tri))
depth_test_nearest best eye q tri near = rw (fragment_is eye q tri) (by (covers w) refl)
  where
    w : Weights
    w = screen_weights eye tri q

    by : (t : Bool) → covers w ≡ t → depth_test (or_background best) (cond t (fragment_by w tri eye.z) None) ≡ or_background (nearer best (cond t (fragment_by w tri eye.z) None))
    by true e = by_seen (int_le (depth w tri) eye.z)
      where
        by_seen : (t : Bool) → depth_test (or_background best) (cond t (Some (record { depth = depth w tri; color = tri.color })) None) ≡ or_background (nearer best (cond t (Some (record { depth = depth w tri; color = tri.color })) None))
        by_seen true = depth_test_more best (record { depth = depth w tri; color = tri.color }) (covered_least w tri (neg_ℤ (pos (2 ^ 24))) e near.a.z.low near.b.z.low near.c.z.low)
        by_seen false = refl
    by false e = refl

pub color_or_background : (best : Option Fragment) → (or_background best).color ≡ option_map_or (λ (f : Fragment). f.color) best black
color_or_background None = refl
color_or_background (Some f) = refl
