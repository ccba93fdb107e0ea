-- What holds of a triangle's edges at both ends of a tile's row holds between them.
use Rattle.std.proofs.Common.{◌≡◌, ◌⊎◌, inl, inr, ℕ, zero, suc, ◌+◌, ◌*◌, ◌<◌, ◌≤◌, ◌%◌, ◌^◌, add-one, arith, ap, ◌∙◌, refl, sym, Bool, true, false, List, ℤ, pos, negsuc, ◌+ℤ◌, ◌*ℤ◌, ◌≤ℤ◌, ◌<ℤ◌, mul-le-mul_right, slice_index_or}
use Rattle.std.proofs.lemmas.Int.{clamps, ints}
use Rattle.std.specs.Int.{int_max}
use Rattle.hd_num.specs.declared.vector.Vec3.{Vec3}
use Rattle.hd_picture.specs.declared.draws.WorldTri.{WorldTri}
use Rattle.hd_picture.specs.declared.define.coverage.Weights.{Weights}
use Rattle.hd_picture.specs.declared.define.pixels.Fragment.{Fragment}
use Rattle.hd_picture.specs.declared.raster.edge_stepping.EdgeValues.{EdgeValues}
use Rattle.hd_picture.specs.declared.raster.window.Window.{Window}
use Rattle.hd_picture.specs.Limits.{IsWithin}
use Rattle.hd_picture.specs.define.Coverage.{covers, screen_weights, total}
use Rattle.hd_picture.specs.inner.DepthBuffer.{IsRowRasterized, background, depth_test}
use Rattle.hd_picture.specs.inner.EdgeStepping.{IsEdgeStep, IsInside, IsRowCovered, IsRowOutside, weights_at_row_end}
use Rattle.hd_picture.specs.inner.TriangleSetup.{IsArea}
use Rattle.hd_picture.specs.inner.Window.{pixel_center_at, tile_pixel_center}
use Rattle.hd_picture.proofs.CoverageLemmas.{IsNonPositive, covers_cases, fragment_none}
use Rattle.hd_picture.proofs.CrossProduct.{read}
use Rattle.hd_picture.proofs.FloorDivision.{IsNonNegative}
use Rattle.hd_picture.proofs.Integers.{add-mul}
use Rattle.hd_picture.proofs.Offsets.{tile_center_is, center_right}

-- between two numbers of a sign
above : (a d : ℤ) (x : ℕ) → x < 16 → pos 0 ≤ℤ a → pos 0 ≤ℤ (a +ℤ pos 15 *ℤ d) → pos 0 ≤ℤ (a +ℤ pos x *ℤ d)
above a (pos m) x h k l = omega (arith, ints)
above a (negsuc m) x h k l =
    let p : x * suc m ≤ 15 * suc m = mul-le-mul_right (suc m) (omega arith) in
    omega (arith, ints)

below : (a d : ℤ) (x : ℕ) → x < 16 → a <ℤ pos 0 → (a +ℤ pos 15 *ℤ d) <ℤ pos 0 → (a +ℤ pos x *ℤ d) <ℤ pos 0
below a (pos m) x h k l =
    let p : x * m ≤ 15 * m = mul-le-mul_right m (omega arith) in
    omega (arith, ints)
below a (negsuc m) x h k l = omega (arith, ints)

times_one : (d : ℤ) → pos 1 *ℤ d ≡ d
times_one d = omega (arith, ints)

times_more : (k : ℕ) (d : ℤ) → pos (suc k) *ℤ d ≡ pos k *ℤ d +ℤ d
times_more k d =
    let e : pos (suc k) ≡ pos k +ℤ pos 1 = omega (arith, ints) in
    rw (e, add-mul (pos k) (pos 1) d, times_one d)

-- the weight 15 steps further, as the code adds it
pub after_read : (a d : ℤ) → IsWithin (2 ^ 59) a → IsWithin (2 ^ 28) d → read (read a +ℤ read (pos 15 *ℤ read d)) ≡ a +ℤ pos 15 *ℤ d
after_read a d h k = omega (arith, ints)

-- where the first two weights are not below 0 at both points, the third is
pub last_below : (v w : Weights) → pos 0 ≤ℤ int_max v.a w.a → pos 0 ≤ℤ int_max v.b w.b → IsRowOutside v w → int_max v.c w.c <ℤ pos 0
last_below v w ha hb (inl h) = absurd (let x = h.0 in let y = h.1 in omega (arith, ints, clamps))
last_below v w ha hb (inr (inl h)) = absurd (let x = h.0 in let y = h.1 in omega (arith, ints, clamps))
last_below v w ha hb (inr (inr h)) = let x = h.0 in let y = h.1 in omega (arith, ints, clamps)

-- equal steps
steps : (e : ℕ → ℤ) (d : ℤ) → ((k : ℕ) → e (k + 1) ≡ e k +ℤ d) → (x : ℕ) → e x ≡ e 0 +ℤ pos x *ℤ d
steps e d step zero = omega (arith, ints)
steps e d step (suc k) =
    let s : e (suc k) ≡ e k +ℤ d = rw add-one at (step k) in
    let h = steps e d step k in
    let t = times_more k d in
    omega (arith, ints)

module _ (eye : Vec3) (tri : WorldTri) (area : ℤ) (w : Window) (row : ℕ) (right : EdgeValues) (s : IsEdgeStep eye tri area (record { x = pos 2; y = pos 0 }) right) where
  abbrev pub at_x : ℕ → Weights
  at_x x = screen_weights eye tri (pixel_center_at w x row)

  next : (k : ℕ) → at_x (k + 1) ≡ record { a = (at_x k).a +ℤ right.weights.a; b = (at_x k).b +ℤ right.weights.b; c = (at_x k).c +ℤ right.weights.c }
  next k = sym (ap (screen_weights eye tri) (center_right w k row)) ∙ s.weights (pixel_center_at w k row)

  along_a : (x : ℕ) → (at_x x).a ≡ (at_x 0).a +ℤ pos x *ℤ right.weights.a
  along_a = steps (λ x. (at_x x).a) right.weights.a (λ k. ap (λ (v : Weights). v.a) (next k))

  along_b : (x : ℕ) → (at_x x).b ≡ (at_x 0).b +ℤ pos x *ℤ right.weights.b
  along_b = steps (λ x. (at_x x).b) right.weights.b (λ k. ap (λ (v : Weights). v.b) (next k))

  along_c : (x : ℕ) → (at_x x).c ≡ (at_x 0).c +ℤ pos x *ℤ right.weights.c
  along_c = steps (λ x. (at_x x).c) right.weights.c (λ k. ap (λ (v : Weights). v.c) (next k))

  pub row_covered : IsInside (at_x 0) → IsInside (weights_at_row_end (at_x 0) right.weights) → IsRowCovered eye w tri row
  row_covered first last = λ x h. record {
    a = rw (along_a x) (above (at_x 0).a right.weights.a x h first.a last.a);
    b = rw (along_b x) (above (at_x 0).b right.weights.b x h first.b last.b);
    c = rw (along_c x) (above (at_x 0).c right.weights.c x h first.c last.c);
  }

  pub row_outside : IsRowOutside (at_x 0) (weights_at_row_end (at_x 0) right.weights) → (x : ℕ) → x < 16 → ¬ (IsInside (at_x x))
  row_outside (inl h) x l in' = let b = below (at_x 0).a right.weights.a x l h.0 h.1 in let e = along_a x in let i = in'.a in omega (arith, ints)
  row_outside (inr (inl h)) x l in' = let b = below (at_x 0).b right.weights.b x l h.0 h.1 in let e = along_b x in let i = in'.b in omega (arith, ints)
  row_outside (inr (inr h)) x l in' = let b = below (at_x 0).c right.weights.c x l h.0 h.1 in let e = along_c x in let i = in'.c in omega (arith, ints)

-- a row that the triangle misses
uncovered : (v : Weights) → pos 0 <ℤ total v → ¬ (IsInside v) → covers v ≡ false
uncovered v p out = by (covers v) refl
  where
    by_side : IsNonNegative v ⊎ IsNonPositive v → ⊥
    by_side (inl l) = out (record { a = l.a; b = l.b; c = l.c })
    by_side (inr r) = let n = r.area in omega (arith, ints)

    by : (t : Bool) → covers v ≡ t → t ≡ false
    by true e = absurd (by_side (covers_cases v e))
    by false e = refl

pub row_missed : (depth_buffer : List Fragment) (eye : Vec3) (w : Window) (tri : WorldTri) (row : ℕ) (area : ℤ) → pos 0 <ℤ area → IsArea eye tri area
    → ((x : ℕ) → x < 16 → ¬ (IsInside (screen_weights eye tri (pixel_center_at w x row)))) → IsRowRasterized eye w tri row depth_buffer depth_buffer
row_missed depth_buffer eye w tri row area p same out = record {
  rasterized = λ k l m.
      let x = k % 16 in
      let h : x < 16 = omega arith in
      let at : tile_pixel_center w k ≡ pixel_center_at w x row = tile_center_is w k x row (omega arith) h in
      let counter_clockwise : pos 0 <ℤ total (screen_weights eye tri (pixel_center_at w x row)) = rw (same (pixel_center_at w x row)) p in
      rw at (sym (ap (depth_test (slice_index_or depth_buffer k background)) (fragment_none eye (pixel_center_at w x row) tri (uncovered (screen_weights eye tri (pixel_center_at w x row)) counter_clockwise (out x h)))));
  above = λ k l. refl;
  below = λ k l. refl;
}
