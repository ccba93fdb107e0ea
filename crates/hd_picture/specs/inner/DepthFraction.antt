-- Depths as fractions by the area, followed from pixel to pixel without a division.
use Rattle.std.specs.Prelude.{pos, ◌-ℤ◌, ◌*ℤ◌, ℤ, ◌+ℤ◌, ◌^◌, ◌≤ℤ◌, ◌≡◌, ◌<ℤ◌}
use Rattle.hd_picture.specs.declared.raster.depth_fraction.DepthFraction.{DepthFraction}
use Rattle.hd_picture.specs.Limits.{IsWithin}

-- what is left over by a division by an area
pub record IsRemainder (area remainder : ℤ) : Type 0 where
  pub least : pos 0 ≤ℤ remainder
  pub most : remainder <ℤ area

-- the number that is divided
abbrev pub numerator : (area : ℤ) → DepthFraction → ℤ
numerator area q = area *ℤ q.whole +ℤ q.remainder

-- n divided by an area and rounded down, within reach of steps
pub record IsDepthFraction (n area : ℤ) (q : DepthFraction) : Type 0 where
  pub value : numerator area q ≡ n
  pub remainder : IsRemainder area q.remainder
  pub reach : IsWithin (2 ^ 60) q.whole

-- a change divided by an area, with the next whole number above the quotient: the remainder is below 0 by at most an area
pub record IsDepthStep (change area : ℤ) (q : DepthFraction) : Type 0 where
  pub value : numerator area q ≡ change
  pub lack : IsRemainder area (q.remainder +ℤ area)
  pub reach : IsWithin (2 ^ 55) q.whole

-- the fraction after one more step
pub record IsNextFraction (area : ℤ) (at step next : DepthFraction) : Type 0 where
  pub value : numerator area next ≡ numerator area at +ℤ numerator area step
  pub remainder : IsRemainder area next.remainder
  pub near : IsWithin (2 ^ 56) (next.whole -ℤ at.whole)
