-- The picture, pixel by pixel over the whole list of triangles.
use Rattle.std.specs.Prelude.{ℕ, Bool, ◌&&◌, int_le, if◌then◌else◌, List, Option, Some, None, filter_map, find, flat_map, map}
use Rattle.std.specs.List.{list_all, range_with_len}
use Rattle.std.specs.Option.{option_map_or}
use Rattle.hd_num.specs.declared.vector.Rgb.{Rgb}
use Rattle.hd_num.specs.declared.vector.Vec3.{Vec3}
use Rattle.hd_picture.specs.declared.define.pixels.Fragment.{Fragment}
use Rattle.hd_picture.specs.declared.define.view.ScreenPoint.{ScreenPoint}
use Rattle.hd_picture.specs.declared.draws.Draws.{Draws}
use Rattle.hd_picture.specs.declared.draws.WorldTri.{WorldTri}
use Rattle.hd_picture.specs.define.Coverage.{screen_weights, covers}
use Rattle.hd_picture.specs.define.Depth.{depth}
use Rattle.hd_picture.specs.define.View.{pixel_center}

-- what a triangle shows at a point: it covers the point, and its depth there is not beyond the eye
unfoldable pub fragment : Vec3 → ScreenPoint → WorldTri → Option Fragment
fragment eye q tri =
    let w = screen_weights eye tri q in
    if covers w && int_le (depth w tri) eye.z
    then Some (record { depth = depth w tri; color = tri.color })
    else None

-- what the triangles show at a point, in the order of the list
abbrev pub fragments : Vec3 → ScreenPoint → List WorldTri → List Fragment
fragments eye q tris = filter_map (fragment eye q) tris

-- no fragment has a greater depth
abbrev pub is_nearest : List Fragment → Fragment → Bool
is_nearest fs f = list_all (λ (g : Fragment). int_le g.depth f.depth) fs

-- the fragment that hides all others: among equal depths, the first in the list
unfoldable pub nearest : List Fragment → Option Fragment
nearest fs = find (is_nearest fs) fs

-- the color where nothing is seen
abbrev pub black : Rgb
black = record { r = 0; g = 0; b = 0 }

-- the color of the nearest fragment, black where there is none
abbrev pub visible_color : List Fragment → Rgb
visible_color fs = option_map_or (λ (f : Fragment). f.color) (nearest fs) black

-- the pixel in column x of row y
unfoldable pub pixel : Draws → (x y : ℕ) → Rgb
pixel draws x y = visible_color (fragments draws.eye (pixel_center draws.width draws.height x y) draws.tris)

-- all pixels, row by row from the top, each row from the left
unfoldable pub picture : Draws → List Rgb
picture draws = flat_map (λ y. map (λ x. pixel draws x y) (range_with_len 0 draws.width)) (range_with_len 0 draws.height)
