-- The triangles of rows.
use Rattle.std.proofs.Common.{◌≡◌, ℕ, Bool, true, ◌&&◌, cond, List, [], Option, refl, ap, sym, ◌∙◌}
use Rattle.std.specs.Prelude.{flat_map}
use Rattle.hd_num.specs.declared.vector.Rgb.{Rgb}
use Rattle.hd_num.specs.declared.vector.Vec3.{Vec3}
use Rattle.hd_num.specs.Matrices.{Rows}
use Rattle.hd_path.specs.Paths.{Path}
use Rattle.hd_rprim.specs.declared.buffer.Buffer.{Buffer}
use Rattle.hd_rprim.specs.declared.buffer.Tri.{Tri}
use Rattle.hd_rprim.specs.declared.row.Shape.{Shape}
use Rattle.hd_rprim.specs.declared.row.RprimRow.{RprimRow}
use Rattle.hd_rprim.specs.Shown.{ShownRow}
use Rattle.hd_picture.specs.declared.draws.WorldTri.{WorldTri}
use Rattle.hd_draws.specs.DrawList.{points_of, triangles_of, colors_of, placed_triangles, is_for_pictures, rprim_draws}
use Rattle.hd_draws.specs.Placements.{placements}

both_hold : (a b : Bool) → a ≡ true → b ≡ true → (a && b) ≡ true
both_hold a b e f = rw (e, f) refl

-- a visible row draws its geometry at each of its placements
pub visible_draws : (rows : List ShownRow) (path : Path) (row : RprimRow) (points triangles colors : Option Buffer)
    (shape : Shape) (faces : ℕ) (ps : List Vec3) (ts : List Tri) (cs : List Rgb) (matrices : List Rows)
    → row.visible ≡ true → is_for_pictures row.purpose ≡ true
    → shape ≡ row.shape → faces ≡ row.faces → ps ≡ points_of points → ts ≡ triangles_of triangles → cs ≡ colors_of colors → matrices ≡ placements rows path row
    → flat_map (placed_triangles shape faces ps ts cs) matrices ≡ rprim_draws rows path row points triangles colors
visible_draws rows path row points triangles colors shape faces ps ts cs matrices seen purpose shape_is faces_is points_is triangles_is colors_is matrices_are =
    let all : List WorldTri = flat_map (placed_triangles row.shape row.faces (points_of points) (triangles_of triangles) (colors_of colors)) (placements rows path row) in
    let same : flat_map (placed_triangles shape faces ps ts cs) matrices ≡ all = cc in
    same ∙ sym (ap (λ b. cond b all []) (both_hold row.visible (is_for_pictures row.purpose) seen purpose))
