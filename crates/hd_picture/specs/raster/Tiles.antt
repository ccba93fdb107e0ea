-- The picture in tiles of 16 by 16 pixels, numbered from 0, row by row from the top left.
use Rattle.std.specs.Prelude.{ℕ, ◌+◌, ◌*◌, ◌&&◌, if◌then◌else◌, List, [], map, flat_map, slice_index_or, ◌/◌, ◌%◌, nat_lt}
use Rattle.std.specs.Int.{div_ceil}
use Rattle.std.specs.List.{range_with_len}
use Rattle.hd_num.specs.declared.vector.Rgb.{Rgb}
use Rattle.hd_picture.specs.declared.draws.Draws.{Draws}
use Rattle.hd_picture.specs.define.Pixels.{black, pixel}

-- how many tiles a picture of this size has
abbrev pub tile_count : (width height : ℕ) → ℕ
tile_count width height = div_ceil width 16 * div_ceil height 16

-- the pixel of the picture, and black outside of it
unfoldable pub pixel_or_black : Draws → (x y : ℕ) → Rgb
pixel_or_black draws x y = if nat_lt x draws.width && nat_lt y draws.height then pixel draws x y else black

-- the pixels of tile n, row by row from the top, each row from the left
unfoldable pub tile : Draws → (n : ℕ) → List Rgb
tile draws n =
    let columns = div_ceil draws.width 16 in
    let left = n % columns * 16 in
    let top = n / columns * 16 in
    map (λ i. pixel_or_black draws (left + i % 16) (top + i / 16)) (range_with_len 0 256)

-- the pixel in column x of row y of a picture in tiles, of which so many are side by side
abbrev pub pixel_in_tiles : (columns : ℕ) → List (List Rgb) → (x y : ℕ) → Rgb
pixel_in_tiles columns tiles x y = slice_index_or (slice_index_or tiles (y / 16 * columns + x / 16) []) (y % 16 * 16 + x % 16) black

-- the pixels of a row, from the left
abbrev pub row_in_tiles : (width : ℕ) → List (List Rgb) → (y : ℕ) → List Rgb
row_in_tiles width tiles y = map (λ x. pixel_in_tiles (div_ceil width 16) tiles x y) (range_with_len 0 width)

-- all pixels, row by row from the top
abbrev pub pixels_in_tiles : (width height : ℕ) → List (List Rgb) → List Rgb
pixels_in_tiles width height tiles = flat_map (row_in_tiles width tiles) (range_with_len 0 height)
