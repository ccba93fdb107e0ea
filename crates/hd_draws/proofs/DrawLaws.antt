-- What follows from the definitions.
use Rattle.std.proofs.Common.{◌≡◌, ◌≤◌, ℤ, pos, int_lt, nat_abs, Bool, true, false, ◌&&◌, ◌==◌, cond, List, [], length, get_or, Option, Some, None, refl, ap, ◌∙◌, arith}
use Rattle.std.specs.Prelude.{flat_map}
use Rattle.std.proofs.lemmas.Bool.Decides.{nat_tests}
use Rattle.std.proofs.lemmas.Int.{ints}
use Rattle.std.proofs.lemmas.Grind.{common_steps}
use Rattle.std.proofs.lemmas.List.{get_or_past}
use Rattle.hd_num.specs.declared.vector.Rgb.{Rgb}
use Rattle.hd_num.specs.declared.vector.Vec3.{Vec3}
use Rattle.hd_rprim.specs.declared.row.Row.TheVariants.{Rprim, Camera, Material, Instancer}
use Rattle.hd_draws.specs.DrawList.{world_triangle, color_of, corner_at, points_of, triangles_of, colors_of, placed_triangles, is_for_pictures}
use Rattle.hd_draws.specs.Laws.{InvisibleDrawsNothing, PlacedOnce, OtherRowsDrawNothing, CornersNamePoints, names_point}
use Rattle.hd_draws.specs.Placements.{instancer_at, copies_by, listed_once, placements}

pub invisible_draws_nothing : InvisibleDrawsNothing
invisible_draws_nothing rows path row points triangles colors hidden =
    ap (λ b. cond (b && is_for_pictures row.purpose) (flat_map (placed_triangles row.shape row.faces (points_of points) (triangles_of triangles) (colors_of colors)) (placements rows path row)) []) hidden

pub placed_once : PlacedOnce
placed_once rows path row matrix alone own =
    ap (λ instancers. cond (length instancers == 0) (listed_once row.matrix) (flat_map (λ instancer. copies_by path row.matrix (instancer_at rows instancer)) instancers)) alone
    ∙ ap listed_once own

pub other_rows_draw_nothing : OtherRowsDrawNothing
other_rows_draw_nothing rows path (Rprim row) points triangles colors other = absurd (other row refl)
other_rows_draw_nothing rows path (Camera matrix) points triangles colors other = refl
other_rows_draw_nothing rows path (Material color) points triangles colors other = refl
other_rows_draw_nothing rows path (Instancer row) points triangles colors other = refl

-- an index that names no point gives no corner
no_corner : (points : List (Option Vec3)) (index : ℤ) → names_point (length points) index ≡ false → corner_at points index ≡ None
no_corner points index unnamed =
    elim (int_lt index (pos 0)) as (λ b. int_lt index (pos 0) ≡ b → cond b None (get_or points (nat_abs index) None) ≡ None) [
      | true ↦ λ h. refl
      | false ↦ λ h.
          let past : length points ≤ nat_abs index = grind (arith, ints, nat_tests, common_steps) in
          get_or_past points (nat_abs index) None past
    ] refl

without_one : (a b c : Option Vec3) (color : Rgb) (p q r : Bool) → (p ≡ false → a ≡ None) → (q ≡ false → b ≡ None) → (r ≡ false → c ≡ None) → (p && (q && r)) ≡ false → world_triangle a b c color ≡ None
without_one None b c color p q r in_a in_b in_c e = refl
without_one (Some a) None c color p q r in_a in_b in_c e = refl
without_one (Some a) (Some b) None color p q r in_a in_b in_c e = refl
without_one (Some a) (Some b) (Some c) color true true true in_a in_b in_c e = cc
without_one (Some a) (Some b) (Some c) color false q r in_a in_b in_c e = let none : Some a ≡ None = in_a refl in cc
without_one (Some a) (Some b) (Some c) color true false r in_a in_b in_c e = let none : Some b ≡ None = in_b refl in cc
without_one (Some a) (Some b) (Some c) color true true false in_a in_b in_c e = let none : Some c ≡ None = in_c refl in cc

pub corners_name_points : CornersNamePoints
corners_name_points points colors faces t unnamed =
    without_one (corner_at points t.a) (corner_at points t.b) (corner_at points t.c) (color_of colors faces t.face)
    (names_point (length points) t.a) (names_point (length points) t.b) (names_point (length points) t.c)
    (no_corner points t.a) (no_corner points t.b) (no_corner points t.c) unnamed
