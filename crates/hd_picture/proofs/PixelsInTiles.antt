-- The pixels of a picture, found in its tiles.
use Rattle.std.proofs.Common.{◌≡◌, ℕ, ◌+◌, ◌*◌, ◌/◌, ◌%◌, ◌<◌, ◌∙◌, ap, arith, nat_lt, true, get_or}
use Rattle.std.specs.Int.{div_ceil}
use Rattle.std.proofs.lemmas.Bool.Decides.{nat_tests}
use Rattle.std.proofs.lemmas.List.FromFn.{get_or-map-range_with_len}
use Rattle.std.proofs.lemmas.Nat.{div-mul-add, mod-mul-add}
use Rattle.std.proofs.Math.Nat.{mul-le-mul_right}
use Rattle.hd_picture.specs.declared.draws.Draws.{Draws}
use Rattle.hd_picture.specs.Laws.{IsInTile}
use Rattle.hd_picture.specs.define.Pixels.{black, pixel}
use Rattle.hd_picture.specs.raster.Tiles.{pixel_or_black, tile}

inside : (draws : Draws) (x y : ℕ) → x < draws.width → y < draws.height → pixel_or_black draws x y ≡ pixel draws x y
unfolding pixel_or_black
inside draws x y hx hy =
    let column : nat_lt x draws.width ≡ true = grind (arith, nat_tests) in
    let row : nat_lt y draws.height ≡ true = grind (arith, nat_tests) in
    rw (column, row)

-- what a tile has at a point is the pixel there
in_tile : (draws : Draws) (n i x y : ℕ) → i < 256 → n % div_ceil draws.width 16 * 16 + i % 16 ≡ x → n / div_ceil draws.width 16 * 16 + i / 16 ≡ y
    → get_or (tile draws n) i black ≡ pixel_or_black draws x y
unfolding tile
in_tile draws n i x y within column row =
    get_or-map-range_with_len (λ k. pixel_or_black draws (n % div_ceil draws.width 16 * 16 + k % 16) (n / div_ceil draws.width 16 * 16 + k / 16)) 0 256 i i black within (omega arith)
    ∙ ap (λ a. pixel_or_black draws a (n / div_ceil draws.width 16 * 16 + i / 16)) column
    ∙ ap (λ b. pixel_or_black draws x b) row

in_count : (x width : ℕ) → x < width → x / 16 < div_ceil width 16
in_count x width h = omega arith

in_rows : (columns rows c r : ℕ) → c < columns → r < rows → r * columns + c < columns * rows
in_rows columns rows c r hc hr =
    let whole = mul-le-mul_right columns hr in
    omega arith

pub is_in_tile : (draws : Draws) (x y : ℕ) → x < draws.width → y < draws.height → IsInTile draws x y
is_in_tile draws x y hx hy =
    let columns = div_ceil draws.width 16 in
    let column = in_count x draws.width hx in
    let row = in_count y draws.height hy in
    record {
      number = in_rows columns (div_ceil draws.height 16) (x / 16) (y / 16) column row;
      color = in_tile draws (y / 16 * columns + x / 16) (y % 16 * 16 + x % 16) x y (omega arith)
          (rw (mod-mul-add (y / 16) columns (x / 16) column) (omega arith))
          (rw (div-mul-add (y / 16) columns (x / 16) column) (omega arith))
          ∙ inside draws x y hx hy;
    }
