-- Ring identities of the edge function, and the bounds of what is covered.
use Rattle.std.proofs.Common.{◌≡◌, ◌⊎◌, inl, inr, arith, refl, Bool, true, false, ℤ, pos, negsuc, ◌+ℤ◌, ◌-ℤ◌, ◌*ℤ◌, neg_ℤ, ◌≤ℤ◌, ◌<ℤ◌}
use Rattle.std.specs.Int.{int_max, int_min}
use Rattle.std.proofs.lemmas.Int.{by_lt_z, clamps, ints}
use borrow.Author.Differences.{same_in, same_out, sum_is_lem, neg_is, product_is, le_out, lt_out}
use Rattle.hd_picture.specs.declared.define.coverage.Weights.{Weights}
use Rattle.hd_picture.specs.declared.define.view.ScreenPoint.{ScreenPoint}
use Rattle.hd_picture.specs.define.Coverage.{covers, edge, weights}
use Rattle.hd_picture.specs.raster.Bounds.{IsBetween, IsInBounds}
use Rattle.hd_picture.proofs.FloorDivision.{IsNonNegative}
use Rattle.hd_picture.proofs.CoverageLemmas.{IsNonPositive, covers_cases}
use Rattle.hd_picture.proofs.Integers.{mul-le-mul, mul-sub, neg-mul, sub-mul, triple_is}

-- the edge function by the offsets from the point to the ends
pub edge-offsets : (a b q : ScreenPoint) → edge a b q ≡ (a.x -ℤ q.x) *ℤ (b.y -ℤ q.y) -ℤ (a.y -ℤ q.y) *ℤ (b.x -ℤ q.x)
unfolding edge
edge-offsets a b q = ring a.x a.y b.x b.y q.x q.y
  where
    ring : (ax ay bx by qx qy : ℤ)
        → (bx -ℤ ax) *ℤ (qy -ℤ ay) -ℤ (by -ℤ ay) *ℤ (qx -ℤ ax)
        ≡ (ax -ℤ qx) *ℤ (by -ℤ qy) -ℤ (ay -ℤ qy) *ℤ (bx -ℤ qx)
    ring ax ay bx by qx qy = simp (sub-mul, mul-sub) (omega (arith, same_in, sum_is_lem, neg_is, product_is))

-- the offsets to the corners, each times its weight, come to nothing
offsets_x : (ax ay bx by cx cy : ℤ)
    → (bx *ℤ cy -ℤ by *ℤ cx) *ℤ ax +ℤ (cx *ℤ ay -ℤ cy *ℤ ax) *ℤ bx +ℤ (ax *ℤ by -ℤ ay *ℤ bx) *ℤ cx ≡ pos 0
offsets_x ax ay bx by cx cy = simp sub-mul (omega (arith, same_in, sum_is_lem, neg_is, triple_is))

offsets_y : (ax ay bx by cx cy : ℤ)
    → (bx *ℤ cy -ℤ by *ℤ cx) *ℤ ay +ℤ (cx *ℤ ay -ℤ cy *ℤ ax) *ℤ by +ℤ (ax *ℤ by -ℤ ay *ℤ bx) *ℤ cy ≡ pos 0
offsets_y ax ay bx by cx cy = simp sub-mul (omega (arith, same_in, sum_is_lem, neg_is, triple_is))

mean_x : (a b c q : ScreenPoint) → edge b c q *ℤ (a.x -ℤ q.x) +ℤ edge c a q *ℤ (b.x -ℤ q.x) +ℤ edge a b q *ℤ (c.x -ℤ q.x) ≡ pos 0
mean_x a b c q =
    rw (edge-offsets b c q, edge-offsets c a q, edge-offsets a b q)
    (offsets_x (a.x -ℤ q.x) (a.y -ℤ q.y) (b.x -ℤ q.x) (b.y -ℤ q.y) (c.x -ℤ q.x) (c.y -ℤ q.y))

mean_y : (a b c q : ScreenPoint) → edge b c q *ℤ (a.y -ℤ q.y) +ℤ edge c a q *ℤ (b.y -ℤ q.y) +ℤ edge a b q *ℤ (c.y -ℤ q.y) ≡ pos 0
mean_y a b c q =
    rw (edge-offsets b c q, edge-offsets c a q, edge-offsets a b q)
    (offsets_y (a.x -ℤ q.x) (a.y -ℤ q.y) (b.x -ℤ q.x) (b.y -ℤ q.y) (c.x -ℤ q.x) (c.y -ℤ q.y))

times_one : (d : ℤ) → d *ℤ pos 1 ≡ d
times_one d = omega (arith, ints)

times_minus : (d : ℤ) → d *ℤ negsuc 0 ≡ neg_ℤ d
times_minus d = omega (arith, ints)

-- a mean is between its parts
mean_between : (u v w x y z q : ℤ) → pos 0 ≤ℤ u → pos 0 ≤ℤ v → pos 0 ≤ℤ w → pos 0 <ℤ (u +ℤ v +ℤ w)
    → u *ℤ (x -ℤ q) +ℤ v *ℤ (y -ℤ q) +ℤ w *ℤ (z -ℤ q) ≡ pos 0 → IsBetween x y z q
mean_between u v w x y z q hu hv hw sum mean = record {
  least = by_lt_z q (int_min x (int_min y z)) (λ l. absurd (below l)) (λ l. l);
  greatest = by_lt_z (int_max x (int_max y z)) q (λ l. absurd (above l)) (λ l. l);
}
  where
    below : q <ℤ int_min x (int_min y z) → ⊥
    below l =
        let a = mul-le-mul u (pos 1) (x -ℤ q) hu (omega (arith, ints, clamps)) in
        let b = mul-le-mul v (pos 1) (y -ℤ q) hv (omega (arith, ints, clamps)) in
        let c = mul-le-mul w (pos 1) (z -ℤ q) hw (omega (arith, ints, clamps)) in
        let ua = times_one u in
        let vb = times_one v in
        let wc = times_one w in
        omega (arith, same_out, le_out, lt_out, sum_is_lem)

    above : int_max x (int_max y z) <ℤ q → ⊥
    above l =
        let a = mul-le-mul u (x -ℤ q) (negsuc 0) hu (omega (arith, ints, clamps)) in
        let b = mul-le-mul v (y -ℤ q) (negsuc 0) hv (omega (arith, ints, clamps)) in
        let c = mul-le-mul w (z -ℤ q) (negsuc 0) hw (omega (arith, ints, clamps)) in
        let ua = times_minus u in
        let vb = times_minus v in
        let wc = times_minus w in
        omega (arith, same_out, le_out, lt_out, sum_is_lem, neg_is)

between_by : (w : Weights) (x y z q : ℤ) → IsNonNegative w ⊎ IsNonPositive w → w.a *ℤ (x -ℤ q) +ℤ w.b *ℤ (y -ℤ q) +ℤ w.c *ℤ (z -ℤ q) ≡ pos 0 → IsBetween x y z q
between_by w x y z q (inl h) mean = mean_between w.a w.b w.c x y z q h.a h.b h.c h.area mean
between_by w x y z q (inr h) mean =
    mean_between (neg_ℤ w.a) (neg_ℤ w.b) (neg_ℤ w.c) x y z q (omega (arith, ints)) (omega (arith, ints)) (omega (arith, ints)) (omega (arith, ints))
    (simp neg-mul (omega (arith, same_in, same_out, sum_is_lem, neg_is)))

-- what is covered is in the bounds
pub covers_in_bounds : (a b c q : ScreenPoint) → covers (weights a b c q) ≡ true → IsInBounds a b c q
covers_in_bounds a b c q h =
    let side = covers_cases (weights a b c q) h in
    record {
      x = between_by (weights a b c q) a.x b.x c.x q.x side (mean_x a b c q);
      y = between_by (weights a b c q) a.y b.y c.y q.y side (mean_y a b c q);
    }

pub outside_bounds : (a b c q : ScreenPoint) → ¬ (IsInBounds a b c q) → covers (weights a b c q) ≡ false
outside_bounds a b c q out = by (covers (weights a b c q)) refl
  where
    by : (t : Bool) → covers (weights a b c q) ≡ t → t ≡ false
    by true e = absurd (out (covers_in_bounds a b c q e))
    by false e = refl
