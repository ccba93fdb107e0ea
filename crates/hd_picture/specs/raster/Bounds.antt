-- The bounds of a triangle, outside of which it covers nothing.
use Rattle.std.specs.Prelude.{ℤ, ◌≤ℤ◌}
use Rattle.std.specs.Int.{int_max, int_min}
use Rattle.hd_picture.specs.declared.define.view.ScreenPoint.{ScreenPoint}

-- q is between the least and the greatest of three
pub record IsBetween (a b c q : ℤ) : Type 0 where
  pub least : int_min a (int_min b c) ≤ℤ q
  pub greatest : q ≤ℤ int_max a (int_max b c)

-- q is within the bounds of three points
pub record IsInBounds (a b c q : ScreenPoint) : Type 0 where
  pub x : IsBetween a.x b.x c.x q.x
  pub y : IsBetween a.y b.y c.y q.y
