-- Quotients with a remainder, step by step.
use Rattle.std.proofs.Common.{◌≡◌, ℕ, ◌<◌, ◌^◌, arith, ◌*◌, ◌≤◌, mul-le-mul_right, ℤ, pos, negsuc, ◌+ℤ◌, ◌-ℤ◌, ◌*ℤ◌, ◌≤ℤ◌, ◌<ℤ◌}
use Rattle.std.specs.Int.{int_div_euclid, int_rem_euclid}
use Rattle.std.proofs.lemmas.Int.{ints}
use Rattle.hd_picture.specs.declared.raster.depth_fraction.DepthFraction.{DepthFraction}
use Rattle.hd_picture.specs.Limits.{IsWithin}
use Rattle.hd_picture.specs.define.Depth.{floor_div}
use Rattle.hd_picture.specs.inner.DepthFraction.{IsDepthFraction, IsDepthStep, IsNextFraction, IsRemainder}
use Rattle.hd_picture.proofs.FloorDivision.{floor_at_most, floor_div_is, floor_greatest, floor_least, floor_most}
use Rattle.hd_picture.proofs.Integers.{mul-add, mul-le-mul, mul-sub}

pub times_one : (d : ℤ) → d *ℤ pos 1 ≡ d
times_one d = omega (arith, ints)

module _ (area : ℤ) (at step next : DepthFraction) (h : IsRemainder area at.remainder) (k : IsRemainder area (step.remainder +ℤ area)) (near : IsWithin (2 ^ 55) step.whole) where
  pub next_fraction_less : next.whole ≡ at.whole +ℤ step.whole -ℤ pos 1 → next.remainder ≡ at.remainder +ℤ step.remainder +ℤ area → (at.remainder +ℤ step.remainder) <ℤ pos 0 → IsNextFraction area at step next
  next_fraction_less e f l = record {
    value = rw (e, f, mul-sub area (at.whole +ℤ step.whole) (pos 1), mul-add area at.whole step.whole, times_one area) (omega (arith, ints));
    remainder = record { least = omega (arith, ints); most = omega (arith, ints) };
    near = record { low = omega (arith, ints); high = omega (arith, ints) };
  }

  pub next_fraction_more : next.whole ≡ at.whole +ℤ step.whole → next.remainder ≡ at.remainder +ℤ step.remainder → pos 0 ≤ℤ (at.remainder +ℤ step.remainder) → IsNextFraction area at step next
  next_fraction_more e f l = record {
    value = rw (e, f, mul-add area at.whole step.whole) (omega (arith, ints));
    remainder = record { least = omega (arith, ints); most = omega (arith, ints) };
    near = record { low = omega (arith, ints); high = omega (arith, ints) };
  }

-- the quotient and the remainder that the machine divides into
pub record IsEuclid (n d : ℤ) : Type 0 where
  pub sum : d *ℤ int_div_euclid n d +ℤ int_rem_euclid n d ≡ n
  pub least : pos 0 ≤ℤ int_rem_euclid n d
  pub most : int_rem_euclid n d <ℤ d

euclid_at : (n : ℤ) (k : ℕ) → 0 < k → IsEuclid n (pos k)
euclid_at (pos a) k h = record { sum = omega (arith, ints); least = omega (arith, ints); most = omega (arith, ints) }
euclid_at (negsuc a) k h = record { sum = omega (arith, ints); least = omega (arith, ints); most = omega (arith, ints) }

pub is_euclid : (n d : ℤ) → pos 0 <ℤ d → IsEuclid n d
is_euclid n (pos k) h = euclid_at n k (omega (arith, ints))
is_euclid n (negsuc k) h = absurd (omega (arith, ints))

pub depth_fraction_is : (n area : ℤ) (q : DepthFraction) → pos 0 <ℤ area → q.whole ≡ int_div_euclid n area → q.remainder ≡ int_rem_euclid n area → IsWithin (2 ^ 60) q.whole → IsDepthFraction n area q
depth_fraction_is n area q p e f reach =
    let h = is_euclid n area p in
    record {
      value = rw (e, f) h.sum;
      remainder = record { least = rw f h.least; most = rw f h.most };
      reach = reach;
    }

-- a change of at most so much has a quotient of at most so much
pub times_area : (area m : ℤ) → pos 0 <ℤ area → pos 0 ≤ℤ m → m ≤ℤ (area *ℤ m)
times_area (pos k) (pos m) p h =
    let l : 1 * m ≤ k * m = mul-le-mul_right m (omega (arith, ints)) in
    omega (arith, ints)
times_area (negsuc k) m p h = absurd (omega (arith, ints))
times_area (pos k) (negsuc m) p h = absurd (omega (arith, ints))

pub step_reach : (n area : ℤ) → pos 0 <ℤ area → IsWithin (2 ^ 54) n → IsWithin (2 ^ 54) (int_div_euclid n area)
step_reach n area p h =
    let e = floor_div_is n area p in
    let t = times_area area (pos (2 ^ 54)) p (omega (arith, ints)) in
    let most : floor_div n area ≤ℤ pos (2 ^ 54) = floor_most n area (pos (2 ^ 54)) p (omega (arith, ints)) in
    let least : (pos 0 -ℤ pos (2 ^ 54)) ≤ℤ floor_div n area =
    floor_least n area (pos 0 -ℤ pos (2 ^ 54)) p (rw (mul-sub area (pos 0) (pos (2 ^ 54))) (omega (arith, ints))) in
    record { low = omega (arith, ints); high = omega (arith, ints) }

pub step_is : (n area : ℤ) (q : DepthFraction) → pos 0 <ℤ area → IsWithin (2 ^ 54) n → q.whole ≡ int_div_euclid n area +ℤ pos 1 → q.remainder ≡ int_rem_euclid n area -ℤ area → IsDepthStep n area q
step_is n area q p near e f =
    let h = is_euclid n area p in
    let r = step_reach n area p near in
    record {
      value = rw (e, f, mul-add area (int_div_euclid n area) (pos 1), times_one area) (let s = h.sum in omega (arith, ints));
      lack = record { least = (let l = h.least in omega (arith, ints)); most = (let l = h.most in omega (arith, ints)) };
      reach = record { low = omega (arith, ints); high = omega (arith, ints) };
    }

-- where a quotient is near 0, one of a number not far away is in reach
module _ (n m area : ℤ) (p : pos 0 <ℤ area) (near : IsWithin (2 ^ 24) (floor_div n area)) (change : IsWithin (2 ^ 58) m) where
  sum_most : (n +ℤ m) ≤ℤ (area *ℤ pos (2 ^ 60))
  sum_most =
      let a = floor_greatest n area p in
      let b = mul-le-mul area (floor_div n area +ℤ pos 1) (pos (2 ^ 59)) (omega (arith, ints)) (omega (arith, ints)) in
      let t = times_area area (pos (2 ^ 59)) p (omega (arith, ints)) in
      let e = mul-add area (pos (2 ^ 59)) (pos (2 ^ 59)) in
      omega (arith, ints)

  sum_least : (area *ℤ (pos 0 -ℤ pos (2 ^ 60))) ≤ℤ (n +ℤ m)
  sum_least =
      let a = floor_at_most n area p in
      let b = mul-le-mul area (pos 0 -ℤ pos (2 ^ 59)) (floor_div n area) (omega (arith, ints)) (omega (arith, ints)) in
      let t = times_area area (pos (2 ^ 59)) p (omega (arith, ints)) in
      let e = mul-sub area (pos 0) (pos (2 ^ 60)) in
      let f = mul-sub area (pos 0) (pos (2 ^ 59)) in
      let g = mul-add area (pos (2 ^ 59)) (pos (2 ^ 59)) in
      rw e (omega (arith, ints))

  pub floor_in_reach : IsWithin (2 ^ 60) (floor_div (n +ℤ m) area)
  floor_in_reach =
      let most : floor_div (n +ℤ m) area ≤ℤ pos (2 ^ 60) = floor_most (n +ℤ m) area (pos (2 ^ 60)) p sum_most in
      let least : (pos 0 -ℤ pos (2 ^ 60)) ≤ℤ floor_div (n +ℤ m) area = floor_least (n +ℤ m) area (pos 0 -ℤ pos (2 ^ 60)) p sum_least in
      record { low = omega (arith, ints); high = omega (arith, ints) }
