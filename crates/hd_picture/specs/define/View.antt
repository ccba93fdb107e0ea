-- How a picture shows the world: the eye looks along falling z, x is right, y is up, and one unit is one pixel.
-- Points of the picture are doubled, so that the centers of pixels are whole numbers. The middle of the picture is (0, 0).
use Rattle.std.specs.Prelude.{ℕ, ◌+◌, ◌*◌, pos, ◌-ℤ◌, ◌*ℤ◌}
use Rattle.hd_num.specs.declared.vector.Vec3.{Vec3}
use Rattle.hd_picture.specs.declared.define.view.ScreenPoint.{ScreenPoint}

-- the center of the pixel in column x of row y, of w columns from the left and h rows from the top
abbrev pub pixel_center : (w h x y : ℕ) → ScreenPoint
pixel_center w h x y = record { x = pos (2 * x + 1) -ℤ pos w; y = pos h -ℤ pos (2 * y + 1) }

-- where the eye sees a point of the world
abbrev pub screen_point : (eye p : Vec3) → ScreenPoint
screen_point eye p = record { x = pos 2 *ℤ (p.x -ℤ eye.x); y = pos 2 *ℤ (p.y -ℤ eye.y) }
