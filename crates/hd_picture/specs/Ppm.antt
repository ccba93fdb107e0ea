-- The binary form of the portable pixmap format.
use Rattle.std.specs.Prelude.{ℕ, List, [], ◌∷◌, ◌++◌, codes, decimal, flat_map}
use Rattle.hd_num.specs.declared.vector.Rgb.{Rgb}

-- the three bytes of a pixel
abbrev pub pixel_bytes : Rgb → List ℕ
pixel_bytes pixel = pixel.r ∷ pixel.g ∷ pixel.b ∷ []

-- the head of a file of w by h pixels, whose greatest value is 255
abbrev pub ppm_head : (w h : ℕ) → List ℕ
ppm_head w h = codes "P6\n" ++ decimal w ++ codes " " ++ decimal h ++ codes "\n255\n"

-- the bytes of the file
unfoldable pub ppm : (w h : ℕ) → List Rgb → List ℕ
ppm w h pixels = ppm_head w h ++ flat_map pixel_bytes pixels
