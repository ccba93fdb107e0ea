-- Triangles that are outside of a tile.
use Rattle.std.specs.Prelude.{ℤ, ◌≤ℤ◌}
use Rattle.hd_picture.specs.declared.define.view.ScreenPoint.{ScreenPoint}
use Rattle.hd_picture.specs.declared.define.view.ScreenTriangle.{ScreenTriangle}
use Rattle.hd_picture.specs.declared.raster.window.Window.{Window}
use Rattle.hd_picture.specs.inner.Window.{tile_pixel_center}
use Rattle.hd_picture.specs.raster.Bounds.{IsBetween, IsInBounds}

-- between two points, of which the first is on the upper left
pub record IsInTileBounds (q first last : ScreenPoint) : Type 0 where
  pub left : first.x ≤ℤ q.x
  pub right : q.x ≤ℤ last.x
  pub bottom : last.y ≤ℤ q.y
  pub top : q.y ≤ℤ first.y

-- no number from least to most is between the least and the greatest of three
abbrev pub AreDisjoint : (a b c least most : ℤ) → Type 0
AreDisjoint a b c least most = (q : ℤ) → least ≤ℤ q → q ≤ℤ most → ¬ (IsBetween a b c q)

-- no point from the center of a tile's first pixel to that of its last one is in the triangle's bounds
abbrev pub IsOutsideTile : ScreenTriangle → Window → Type 0
IsOutsideTile screen w = (q : ScreenPoint) → IsInTileBounds q (tile_pixel_center w 0) (tile_pixel_center w 255) → ¬ (IsInBounds screen.a screen.b screen.c q)
