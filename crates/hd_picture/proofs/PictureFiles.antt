-- The file of a picture, written from its tiles.
use Rattle.std.proofs.Common.{◌≡◌, ℕ, zero, suc, ◌+◌, ◌*◌, ◌/◌, ◌%◌, ◌<◌, ◌≤◌, ◌∙◌, List, [], ◌∷◌, ◌++◌, get_or, map, refl, ap, arith}
use Rattle.std.specs.Int.{div_ceil}
use Rattle.std.specs.List.{range_with_len, flat_map}
use Rattle.std.proofs.lemmas.List.FromFn.{get_or-map-range_with_len}
use Rattle.std.proofs.Math.Nat.{mul-le-mul_right}
use Rattle.hd_num.specs.declared.vector.Rgb.{Rgb}
use Rattle.hd_picture.specs.declared.draws.Draws.{Draws}
use Rattle.hd_picture.specs.define.Pixels.{black, pixel, picture}
use Rattle.hd_picture.specs.raster.Tiles.{tile, tile_count, pixel_in_tiles, row_in_tiles, pixels_in_tiles}
use Rattle.hd_picture.proofs.PixelsInTiles.{is_in_tile}

same_map : {A : Type 0} (f g : ℕ → A) (a n : ℕ) → ((k : ℕ) → k < a + n → f k ≡ g k) → map f (range_with_len a n) ≡ map g (range_with_len a n)
same_map f g a zero same = refl
same_map {A} f g a (suc n) same =
    let first = same a (omega arith) in
    let others = same_map f g (a + 1) n (λ k lt. same k (omega arith)) in
    ap (λ (x : A). x ∷ map f (range_with_len (a + 1) n)) first ∙ ap (λ (xs : List A). g a ∷ xs) others

same_joined : {A : Type 0} (f g : ℕ → List A) (a n : ℕ) → ((k : ℕ) → k < a + n → f k ≡ g k) → flat_map f (range_with_len a n) ≡ flat_map g (range_with_len a n)
same_joined f g a zero same = refl
same_joined {A} f g a (suc n) same =
    let first = same a (omega arith) in
    let others = same_joined f g (a + 1) n (λ k lt. same k (omega arith)) in
    ap (λ (x : List A). x ++ flat_map f (range_with_len (a + 1) n)) first ∙ ap (λ (xs : List A). g a ++ xs) others

-- the tiles of a picture
abbrev pub tiles_of : Draws → List (List Rgb)
tiles_of draws = map (tile draws) (range_with_len 0 (tile_count draws.width draws.height))

pixel_found : (draws : Draws) (x y : ℕ) → x < draws.width → y < draws.height → pixel_in_tiles (div_ceil draws.width 16) (tiles_of draws) x y ≡ pixel draws x y
pixel_found draws x y column row =
    let found = is_in_tile draws x y column row in
    let n : ℕ = y / 16 * div_ceil draws.width 16 + x / 16 in
    ap (λ (t : List Rgb). get_or t (y % 16 * 16 + x % 16) black)
    (get_or-map-range_with_len (tile draws) 0 (tile_count draws.width draws.height) n n [] found.number (omega arith))
    ∙ found.color

-- the pixels of a picture's tiles are the picture
pub tiles_show : (draws : Draws) → pixels_in_tiles draws.width draws.height (tiles_of draws) ≡ picture draws
unfolding picture
tiles_show draws =
    same_joined (row_in_tiles draws.width (tiles_of draws)) (λ y. map (λ x. pixel draws x y) (range_with_len 0 draws.width)) 0 draws.height
    (λ y row. same_map (λ x. pixel_in_tiles (div_ceil draws.width 16) (tiles_of draws) x y) (λ x. pixel draws x y) 0 draws.width
    (λ x column. pixel_found draws x y (omega (arith, column)) (omega (arith, row))))

-- a row of tiles is within all
pub row_within : (columns rows r : ℕ) → r < rows → r * columns + columns ≤ columns * rows
row_within columns rows r lt =
    let whole = mul-le-mul_right columns lt in
    omega arith
