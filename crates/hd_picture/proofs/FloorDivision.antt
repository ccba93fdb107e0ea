-- Quotients rounded down, and means by weights.
use Rattle.std.proofs.Common.{◌≡◌, ℕ, suc, zero, ◌<◌, ◌^◌, ◌≢◌, arith, refl, sym, false, ℤ, pos, negsuc, ◌+ℤ◌, ◌*ℤ◌, neg_ℤ, ◌≤ℤ◌, ◌<ℤ◌, int_lt}
use Rattle.std.specs.Int.{int_div_euclid}
use Rattle.std.proofs.lemmas.Int.{ints}
use borrow.Author.Differences.{at_most_in, below_in, le_out, lt_out, sum_is_lem}
use lib.IntN.{neg_ℤ-neg_ℤ}
use Rattle.hd_picture.specs.declared.draws.WorldTri.{WorldTri}
use Rattle.hd_picture.specs.declared.define.coverage.Weights.{Weights}
use Rattle.hd_picture.specs.Laws.{RoundsDown}
use Rattle.hd_picture.specs.Limits.{IsTriWithin, IsWithin}
use Rattle.hd_picture.specs.define.Coverage.{total}
use Rattle.hd_picture.specs.define.Depth.{depth, floor_div}
use Rattle.hd_picture.specs.inner.Coverage.{IsCounterClockwise}
use Rattle.hd_picture.specs.inner.Depth.{depth_sum}
use Rattle.hd_picture.proofs.Integers.{add-mul, mul-add, mul-le-mul, mul-le_cancel, mul-lt_cancel}

-- by a divisor above 0 the quotient is Euclid's
pub floor_div_is : (n d : ℤ) → pos 0 <ℤ d → floor_div n d ≡ int_div_euclid n d
unfolding floor_div
floor_div_is n d h =
    let e : false ≡ int_lt d (pos 0) = omega (arith, ints) in
    rw (sym e)

euclid_at_most : (n : ℤ) (k : ℕ) → 0 < k → (pos k *ℤ int_div_euclid n (pos k)) ≤ℤ n
euclid_at_most (pos a) k h = omega (arith, ints)
euclid_at_most (negsuc a) k h = omega (arith, ints)

euclid_greatest : (n : ℤ) (k : ℕ) → 0 < k → n <ℤ (pos k *ℤ int_div_euclid n (pos k) +ℤ pos k)
euclid_greatest (pos a) k h = omega (arith, ints)
euclid_greatest (negsuc a) k h = omega (arith, ints)

pub floor_at_most : (n d : ℤ) → pos 0 <ℤ d → (d *ℤ floor_div n d) ≤ℤ n
floor_at_most n (pos k) h = rw (floor_div_is n (pos k) h) (euclid_at_most n k (omega (arith, ints)))
floor_at_most n (negsuc k) h = absurd (omega (arith, ints))

floor_greatest_by : (n d : ℤ) → pos 0 <ℤ d → n <ℤ (d *ℤ floor_div n d +ℤ d)
floor_greatest_by n (pos k) h = rw (floor_div_is n (pos k) h) (euclid_greatest n k (omega (arith, ints)))
floor_greatest_by n (negsuc k) h = absurd (omega (arith, ints))

times_one : (d : ℤ) → d *ℤ pos 1 ≡ d
times_one d = omega (arith, ints)

pub floor_greatest : (n d : ℤ) → pos 0 <ℤ d → n <ℤ (d *ℤ (floor_div n d +ℤ pos 1))
floor_greatest n d h = rw (mul-add d (floor_div n d) (pos 1), times_one d) (floor_greatest_by n d h)

pub floor_both_signs : (n d : ℤ) → d ≢ pos 0 → floor_div (neg_ℤ n) (neg_ℤ d) ≡ floor_div n d
unfolding floor_div
floor_both_signs n (pos zero) h = absurd (h refl)
floor_both_signs n (pos (suc k)) h =
    let e : false ≡ int_lt (pos (suc k)) (pos 0) = omega (arith, ints) in
    rw (sym e, neg_ℤ-neg_ℤ n)
floor_both_signs n (negsuc k) h =
    let e : false ≡ int_lt (pos (suc k)) (pos 0) = omega (arith, ints) in
    rw (sym e)

pub each_rounds_down : (n d : ℤ) → RoundsDown n d
each_rounds_down n d = record {
  at_most = floor_at_most n d;
  greatest = floor_greatest n d;
  both_signs = floor_both_signs n d;
}

-- a quotient is at most what bounds the fraction, and at least
pub floor_most : (n d m : ℤ) → pos 0 <ℤ d → n ≤ℤ (d *ℤ m) → floor_div n d ≤ℤ m
floor_most n d m p h = mul-le_cancel d (floor_div n d) m p (let l = floor_at_most n d p in omega (arith, at_most_in, le_out))

pub floor_least : (n d m : ℤ) → pos 0 <ℤ d → (d *ℤ m) ≤ℤ n → m ≤ℤ floor_div n d
floor_least n d m p h =
    let l : m <ℤ (floor_div n d +ℤ pos 1) = mul-lt_cancel d m (floor_div n d +ℤ pos 1) p (let g = floor_greatest n d p in omega (arith, below_in, le_out, lt_out)) in
    omega (arith, ints)

-- no weight is below 0
pub record IsNonNegative (w : Weights) : Type 0 where
  pub a : pos 0 ≤ℤ w.a
  pub b : pos 0 ≤ℤ w.b
  pub c : pos 0 ≤ℤ w.c
  pub area : pos 0 <ℤ total w

pub counter_clockwise_non_negative : (w : Weights) → IsCounterClockwise w → IsNonNegative w
counter_clockwise_non_negative w h = record { a = h.a; b = h.b; c = h.c; area = h.area }

-- the depth is between the least and the greatest z of the corners
module _ (w : Weights) (tri : WorldTri) (counter_clockwise : IsNonNegative w) (m : ℤ) where
  times_total : total w *ℤ m ≡ w.a *ℤ m +ℤ w.b *ℤ m +ℤ w.c *ℤ m
  times_total = rw (add-mul (w.a +ℤ w.b) w.c m, add-mul w.a w.b m)

  pub depth_most : tri.a.z ≤ℤ m → tri.b.z ≤ℤ m → tri.c.z ≤ℤ m → depth w tri ≤ℤ m
  unfolding depth
  depth_most ha hb hc =
      let a = mul-le-mul w.a tri.a.z m counter_clockwise.a ha in
      let b = mul-le-mul w.b tri.b.z m counter_clockwise.b hb in
      let c = mul-le-mul w.c tri.c.z m counter_clockwise.c hc in
      floor_most (depth_sum w tri) (total w) m counter_clockwise.area (rw times_total (omega (arith, at_most_in, le_out, sum_is_lem)))

  pub depth_least : m ≤ℤ tri.a.z → m ≤ℤ tri.b.z → m ≤ℤ tri.c.z → m ≤ℤ depth w tri
  unfolding depth
  depth_least ha hb hc =
      let a = mul-le-mul w.a m tri.a.z counter_clockwise.a ha in
      let b = mul-le-mul w.b m tri.b.z counter_clockwise.b hb in
      let c = mul-le-mul w.c m tri.c.z counter_clockwise.c hc in
      floor_least (depth_sum w tri) (total w) m counter_clockwise.area (rw times_total (omega (arith, at_most_in, le_out, sum_is_lem)))

pub depth_within : (w : Weights) (tri : WorldTri) → IsCounterClockwise w → IsTriWithin (2 ^ 24) tri → IsWithin (2 ^ 24) (depth w tri)
depth_within w tri counter_clockwise h = record {
  low = depth_least w tri (counter_clockwise_non_negative w counter_clockwise) (neg_ℤ (pos (2 ^ 24))) h.a.z.low h.b.z.low h.c.z.low;
  high = depth_most w tri (counter_clockwise_non_negative w counter_clockwise) (pos (2 ^ 24)) h.a.z.high h.b.z.high h.c.z.high;
}

pub depth_flat : (w : Weights) (tri : WorldTri) → IsCounterClockwise w → tri.a.z ≡ tri.b.z → tri.b.z ≡ tri.c.z → tri.a.z ≡ depth w tri
depth_flat w tri counter_clockwise ab bc =
    let l = depth_least w tri (counter_clockwise_non_negative w counter_clockwise) tri.a.z (omega (arith, ints)) (omega (arith, ints)) (omega (arith, ints)) in
    let m = depth_most w tri (counter_clockwise_non_negative w counter_clockwise) tri.a.z (omega (arith, ints)) (omega (arith, ints)) (omega (arith, ints)) in
    omega (arith, ints)
