-- What can be drawn.
use Rattle.std.specs.Prelude.{ℕ, pos, ℤ, neg_ℤ, ◌^◌, ◌≤◌, ◌≤ℤ◌, All}
use Rattle.hd_num.specs.declared.vector.Vec3.{Vec3}
use Rattle.hd_picture.specs.declared.draws.Draws.{Draws}
use Rattle.hd_picture.specs.declared.draws.WorldTri.{WorldTri}

-- a picture's width or height
pub record IsFrameSize (n : ℕ) : Type 0 where
  pub least : 1 ≤ n
  pub most : n ≤ 1024

-- from -bound to bound
pub record IsWithin (bound : ℕ) (z : ℤ) : Type 0 where
  pub low : neg_ℤ (pos bound) ≤ℤ z
  pub high : z ≤ℤ pos bound

-- each coordinate, or each corner, from -bound to bound
pub record IsPointWithin (bound : ℕ) (p : Vec3) : Type 0 where
  pub x : IsWithin bound p.x
  pub y : IsWithin bound p.y
  pub z : IsWithin bound p.z

pub record IsTriWithin (bound : ℕ) (tri : WorldTri) : Type 0 where
  pub a : IsPointWithin bound tri.a
  pub b : IsPointWithin bound tri.b
  pub c : IsPointWithin bound tri.c

-- the frame's size is in its limits, and the eye and the corners are near enough to be drawn exactly
pub record IsDrawable (draws : Draws) : Type 0 where
  pub width : IsFrameSize draws.width
  pub height : IsFrameSize draws.height
  pub eye : IsPointWithin (2 ^ 30) draws.eye
  pub corners : All (IsTriWithin (2 ^ 24)) draws.tris
