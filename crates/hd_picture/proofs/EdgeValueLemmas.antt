-- What edge values say of the fragment at their point.
use Rattle.std.proofs.Common.{◌≡◌, ◌⊎◌, inl, inr, arith, ap, ◌∙◌, refl, sym, subst, Bool, true, false, cond, ℤ, pos, ◌+ℤ◌, ◌*ℤ◌, ◌≤ℤ◌, ◌<ℤ◌, int_le, int_lt, None, Some}
use Rattle.std.proofs.lemmas.Int.{ints}
use Rattle.hd_num.specs.declared.vector.Vec3.{Vec3}
use Rattle.hd_picture.specs.declared.draws.WorldTri.{WorldTri}
use Rattle.hd_picture.specs.declared.define.coverage.Weights.{Weights}
use Rattle.hd_picture.specs.declared.define.pixels.Fragment.{Fragment}
use Rattle.hd_picture.specs.declared.define.view.ScreenPoint.{ScreenPoint}
use Rattle.hd_picture.specs.declared.raster.depth_fraction.DepthFraction.{DepthFraction}
use Rattle.hd_picture.specs.declared.raster.edge_stepping.EdgeValues.{EdgeValues}
use Rattle.hd_picture.specs.define.Coverage.{covers, screen_weights, total}
use Rattle.hd_picture.specs.define.Depth.{depth, floor_div}
use Rattle.hd_picture.specs.define.Pixels.{fragment}
use Rattle.hd_picture.specs.inner.Depth.{depth_sum}
use Rattle.hd_picture.specs.inner.DepthBuffer.{depth_test}
use Rattle.hd_picture.specs.inner.DepthFraction.{IsDepthStep, IsNextFraction, IsRemainder, numerator}
use Rattle.hd_picture.specs.inner.EdgeStepping.{AreEdgeValues, IsEdgeStep, IsInside, IsNearer, IsPlaneDepth, IsStepWeights, IsVisible, add_weights, offset_point}
use Rattle.hd_picture.specs.inner.Pixels.{fragment_by}
use Rattle.hd_picture.specs.inner.View.{IsScreenTriangle}
use Rattle.hd_picture.proofs.CoverageLemmas.{IsNonPositive, covers_cases, covers_non_negative, fragment_is}
use Rattle.hd_picture.proofs.FloorDivision.{IsNonNegative, floor_least}
use Rattle.hd_picture.proofs.Integers.{mul-add, mul-lt_cancel}
use Rattle.hd_picture.proofs.FloorDivision.{floor_at_most}
use Rattle.hd_picture.specs.declared.define.view.ScreenTriangle.{ScreenTriangle}
use Rattle.hd_picture.proofs.PixelLemmas.{same_weights}
use Rattle.hd_picture.proofs.Offsets.{change, depth_sum-add_weights, weights-offset_point}

times_one : (d : ℤ) → d *ℤ pos 1 ≡ d
times_one d = omega (arith, ints)

-- a quotient with a remainder below the area is the one rounded down
pub whole_is : (n area : ℤ) (q : DepthFraction) → pos 0 <ℤ area → numerator area q ≡ n → IsRemainder area q.remainder → floor_div n area ≡ q.whole
whole_is n area q p e remainder =
    let least : q.whole ≤ℤ floor_div n area = floor_least n area q.whole p (omega (arith, ints)) in
    let most : floor_div n area <ℤ (q.whole +ℤ pos 1) =
    mul-lt_cancel area (floor_div n area) (q.whole +ℤ pos 1) p
    (rw (mul-add area q.whole (pos 1), times_one area) (let l = floor_at_most n area p in omega (arith, ints))) in
    omega (arith, ints)

-- the change of a triangle's edge values by an offset, by its weights and the fraction of its depths
pub step_is : (eye : Vec3) (tri : WorldTri) (screen : ScreenTriangle) (area : ℤ) (offset : ScreenPoint) (step : EdgeValues) → IsScreenTriangle eye tri screen
    → step.weights ≡ change screen.a screen.b screen.c offset → IsStepWeights step.weights → IsDepthStep (depth_sum step.weights tri) area step.depth
    → IsEdgeStep eye tri area offset step
step_is eye tri screen area offset step at e small d = record {
  weights = λ q.
      let same = same_weights eye tri screen (offset_point q offset) at in
      let before = same_weights eye tri screen q at in
      sym same ∙ weights-offset_point screen.a screen.b screen.c q offset ∙ sums before (sym e);
  value = d.value;
  reach = record { weights = small; lack = d.lack; whole = d.reach };
}
  where
    sums : {v w x y : Weights} → v ≡ w → x ≡ y → add_weights v x ≡ add_weights w y
    sums p q = rw (p, q)

-- one step further
pub edge_values_next : (eye : Vec3) (tri : WorldTri) (area : ℤ) (q r offset : ScreenPoint) (at step next : EdgeValues)
    → AreEdgeValues eye tri area q at → IsEdgeStep eye tri area offset step → next.weights ≡ add_weights at.weights step.weights → IsNextFraction area at.depth step.depth next.depth
    → offset_point q offset ≡ r → AreEdgeValues eye tri area r next
edge_values_next eye tri area q r offset at step next h s e d to =
    let same : screen_weights eye tri r ≡ add_weights (screen_weights eye tri q) step.weights = sym (ap (screen_weights eye tri) to) ∙ s.weights q in
    record {
      weights = e ∙ ap (λ (w : Weights). add_weights w step.weights) h.weights ∙ sym same;
      value = sum same;
      remainder = d.remainder;
    }
  where
    sum : screen_weights eye tri r ≡ add_weights (screen_weights eye tri q) step.weights → numerator area next.depth ≡ depth_sum (screen_weights eye tri r) tri
    sum same =
        let a : numerator area at.depth ≡ depth_sum (screen_weights eye tri q) tri = h.value in
        let b : numerator area step.depth ≡ depth_sum step.weights tri = s.value in
        let w = depth_sum-add_weights (screen_weights eye tri q) step.weights tri in
        let t : depth_sum (screen_weights eye tri r) tri ≡ depth_sum (add_weights (screen_weights eye tri q) step.weights) tri = ap (λ (v : Weights). depth_sum v tri) same in
        d.value ∙ sums a b ∙ sym w ∙ sym t
      where
        sums : {x y u v : ℤ} → x ≡ u → y ≡ v → x +ℤ y ≡ u +ℤ v
        sums p q = rw (p, q)

-- the same of the depth alone
pub depth_next : (eye : Vec3) (tri : WorldTri) (area : ℤ) (q r offset : ScreenPoint) (at next : DepthFraction) (step : EdgeValues)
    → IsPlaneDepth eye tri area q at → IsEdgeStep eye tri area offset step → IsNextFraction area at step.depth next → offset_point q offset ≡ r → IsPlaneDepth eye tri area r next
depth_next eye tri area q r offset at next step h s d to =
    let w = screen_weights eye tri q in
    let m = edge_values_next eye tri area q r offset (record { weights = w; depth = at }) step (record { weights = add_weights w step.weights; depth = next })
    (record { weights = refl; value = h.value; remainder = h.remainder }) s refl d to in
    record { value = m.value; remainder = m.remainder }

module _ (eye : Vec3) (tri : WorldTri) (area : ℤ) (q : ScreenPoint) (at : EdgeValues) (p : pos 0 <ℤ area) (counter_clockwise : total (screen_weights eye tri q) ≡ area) (h : AreEdgeValues eye tri area q at) where
  depth_is : depth (screen_weights eye tri q) tri ≡ at.depth.whole
  unfolding depth
  depth_is = ap (floor_div (depth_sum (screen_weights eye tri q) tri)) counter_clockwise ∙ whole_is (depth_sum (screen_weights eye tri q) tri) area at.depth p h.value h.remainder

  inside_is : IsInside at.weights → covers (screen_weights eye tri q) ≡ true
  inside_is i =
      let w : IsInside (screen_weights eye tri q) = subst IsInside h.weights i in
      covers_non_negative (screen_weights eye tri q) (record { a = w.a; b = w.b; c = w.c; area = rw counter_clockwise p })

  outside_is : ¬ (IsInside at.weights) → covers (screen_weights eye tri q) ≡ false
  outside_is out = by (covers (screen_weights eye tri q)) refl
    where
      by_side : IsNonNegative (screen_weights eye tri q) ⊎ IsNonPositive (screen_weights eye tri q) → ⊥
      by_side (inl l) = out (subst IsInside (sym h.weights) (record { a = l.a; b = l.b; c = l.c }))
      by_side (inr r) = let n = r.area in omega (arith, ints)

      by : (t : Bool) → covers (screen_weights eye tri q) ≡ t → t ≡ false
      by true e = absurd (by_side (covers_cases (screen_weights eye tri q) e))
      by false e = refl

  -- a fragment that is visible replaces the stored one
  pub visible_is : (held : Fragment) → IsVisible at eye.z held.depth → record { depth = at.depth.whole; color = tri.color } ≡ depth_test held (fragment eye q tri)
  visible_is held s =
      let screen : true ≡ int_le at.depth.whole eye.z = let l = s.nearer.in_front in omega (arith, ints) in
      let nearer : true ≡ int_lt held.depth at.depth.whole = let l = s.nearer.nearer in omega (arith, ints) in
      sym (ap (depth_test held) (fragment_is eye q tri) ∙ rw (inside_is s.covered, depth_is, sym screen, sym nearer))

  pub hidden_is : (held : Fragment) → ¬ (IsVisible at eye.z held.depth) → held ≡ depth_test held (fragment eye q tri)
  hidden_is held not = sym (ap (depth_test held) (fragment_is eye q tri) ∙ by (covers (screen_weights eye tri q)) refl)
    where
      hidden : covers (screen_weights eye tri q) ≡ true → depth_test held (fragment_by (screen_weights eye tri q) tri eye.z) ≡ held
      hidden e = rw depth_is (by_seen (int_le at.depth.whole eye.z) refl)
        where
          by_near : (t : Bool) → int_lt held.depth at.depth.whole ≡ t → int_le at.depth.whole eye.z ≡ true → cond t (record { depth = at.depth.whole; color = tri.color }) held ≡ held
          by_near true n s = absurd (not (record {
            covered = (let l = non_negative_of (covers_cases (screen_weights eye tri q) e) in subst IsInside (sym h.weights) l);
            nearer = record { in_front = omega (arith, ints); nearer = omega (arith, ints) };
          }))
            where
              non_negative_of : IsNonNegative (screen_weights eye tri q) ⊎ IsNonPositive (screen_weights eye tri q) → IsInside (screen_weights eye tri q)
              non_negative_of (inl l) = record { a = l.a; b = l.b; c = l.c }
              non_negative_of (inr r) = absurd (let n = r.area in omega (arith, ints))
          by_near false n s = refl

          by_seen : (t : Bool) → int_le at.depth.whole eye.z ≡ t → depth_test held (cond t (Some (record { depth = at.depth.whole; color = tri.color })) None) ≡ held
          by_seen true s = by_near (int_lt held.depth at.depth.whole) refl s
          by_seen false s = refl

      by : (t : Bool) → covers (screen_weights eye tri q) ≡ t → depth_test held (cond t (fragment_by (screen_weights eye tri q) tri eye.z) None) ≡ held
      by true e = hidden e
      by false e = refl

-- the same where the point is known to be covered
module _ (eye : Vec3) (tri : WorldTri) (area : ℤ) (q : ScreenPoint) (at : DepthFraction) (p : pos 0 <ℤ area) (counter_clockwise : total (screen_weights eye tri q) ≡ area)
    (covered : IsInside (screen_weights eye tri q)) (h : IsPlaneDepth eye tri area q at) where
  abbrev values : EdgeValues
  values = record { weights = screen_weights eye tri q; depth = at }

  are_edge_values : AreEdgeValues eye tri area q values
  are_edge_values = record { weights = refl; value = h.value; remainder = h.remainder }

  pub nearer_is : (held : Fragment) → IsNearer at.whole eye.z held.depth → record { depth = at.whole; color = tri.color } ≡ depth_test held (fragment eye q tri)
  nearer_is held n = visible_is eye tri area q values p counter_clockwise are_edge_values held (record { covered = covered; nearer = n })

  pub farther_is : (held : Fragment) → ¬ (IsNearer at.whole eye.z held.depth) → held ≡ depth_test held (fragment eye q tri)
  farther_is held not = hidden_is eye tri area q values p counter_clockwise are_edge_values held (λ s. not s.nearer)
