-- The nearest fragment of each pixel of a tile, as triangles are drawn into it.
use Rattle.std.specs.Prelude.{ℕ, ◌+◌, ◌*◌, pos, ◌&&◌, ℤ, int_lt, neg_ℤ, if◌then◌else◌, List, Option, Some, None, ◌^◌, ◌≤◌, ◌≤ℤ◌, ◌≡◌, ◌<◌, ◌/◌, ◌%◌, slice_index_or, nat_lt}
use Rattle.hd_num.specs.declared.vector.Rgb.{Rgb}
use Rattle.hd_num.specs.declared.vector.Vec3.{Vec3}
use Rattle.hd_picture.specs.declared.define.pixels.Fragment.{Fragment}
use Rattle.hd_picture.specs.declared.draws.WorldTri.{WorldTri}
use Rattle.hd_picture.specs.declared.raster.window.Window.{Window}
use Rattle.hd_picture.specs.define.Pixels.{fragment, nearest, black}
use Rattle.hd_picture.specs.inner.Window.{tile_pixel_center}

-- the fragment where no triangle is seen, below every depth of one
abbrev pub background : Fragment
background = record { depth = neg_ℤ (pos (2 ^ 25)); color = black }

-- the nearest fragment, or the background where there is none
abbrev pub or_background : Option Fragment → Fragment
or_background None = background
or_background (Some f) = f

-- the same of a pixel of the depth buffer
abbrev pub depth_test : Fragment → Option Fragment → Fragment
depth_test held None = held
depth_test held (Some f) = if int_lt held.depth f.depth then f else held

-- each pixel's nearest fragment after one more triangle
abbrev pub IsRasterized : Vec3 → Window → WorldTri → (old new : List Fragment) → Type 0
IsRasterized eye w tri old new = (k : ℕ) → k < 256 → slice_index_or new k background ≡ depth_test (slice_index_or old k background) (fragment eye (tile_pixel_center w k) tri)

-- the color of a tile's pixel k by its nearest fragment, black outside of the picture
abbrev pub color_in : Window → (k : ℕ) → Fragment → Rgb
color_in w k nearest = if nat_lt (w.left + k % 16) w.width && nat_lt (w.top + k / 16) w.height then nearest.color else black

-- one of a tile's fragments has this depth, and none a smaller one
pub record IsMinDepth (depth_buffer : List Fragment) (least : ℤ) : Type 0 where
  pub at_most : (k : ℕ) → k < 256 → least ≤ℤ (slice_index_or depth_buffer k background).depth
  pub place : ℕ
  pub in_tile : place < 256
  pub reached : (slice_index_or depth_buffer place background).depth ≡ least

-- the same in one row of a tile, and nothing else
pub record IsRowRasterized (eye : Vec3) (w : Window) (tri : WorldTri) (row : ℕ) (old new : List Fragment) : Type 0 where
  pub rasterized : (k : ℕ) → row * 16 ≤ k → k < row * 16 + 16 → slice_index_or new k background ≡ depth_test (slice_index_or old k background) (fragment eye (tile_pixel_center w k) tri)
  pub above : (k : ℕ) → k < row * 16 → slice_index_or new k background ≡ slice_index_or old k background
  pub below : (k : ℕ) → row * 16 + 16 ≤ k → slice_index_or new k background ≡ slice_index_or old k background
