-- Where a tile is in the picture, and the centers of its pixels.
use Rattle.std.specs.Prelude.{ℕ, ◌+◌, ◌*◌, ◌≤◌, ◌/◌, ◌%◌}
use Rattle.std.specs.Int.{div_ceil}
use Rattle.hd_picture.specs.declared.define.view.ScreenPoint.{ScreenPoint}
use Rattle.hd_picture.specs.declared.draws.Draws.{Draws}
use Rattle.hd_picture.specs.declared.raster.window.Window.{Window}
use Rattle.hd_picture.specs.Limits.{IsFrameSize}
use Rattle.hd_picture.specs.define.View.{pixel_center}

-- the center of the pixel in column x and row y of a tile
abbrev pub pixel_center_at : Window → (x y : ℕ) → ScreenPoint
pixel_center_at w x y = pixel_center w.width w.height (w.left + x) (w.top + y)

-- where tile n lies
abbrev pub window : Draws → (n : ℕ) → Window
window draws n = record {
  width = draws.width;
  height = draws.height;
  left = n % div_ceil draws.width 16 * 16;
  top = n / div_ceil draws.width 16 * 16;
}

-- a picture of a size that can be drawn, and a tile that begins in reach of it
pub record IsWindow (w : Window) : Type 0 where
  pub width : IsFrameSize w.width
  pub height : IsFrameSize w.height
  pub left : w.left ≤ 1008
  pub top : w.top ≤ 1008

-- the center of a tile's pixel k
abbrev pub tile_pixel_center : Window → (k : ℕ) → ScreenPoint
tile_pixel_center w k = pixel_center w.width w.height (w.left + k % 16) (w.top + k / 16)
