-- Points that are not drawn.
use Rattle.std.proofs.Common.{◌≡◌, ℕ, zero, suc, ℤ, pos, int_lt, nat_abs, true, false, cond, List, [], ◌∷◌, get_or, map, Option, None, refl, ap, subst, ◌∙◌}
use Rattle.std.specs.Prelude.{All, filter_map}
use Rattle.std.specs.List.{cons_option}
use Rattle.std.proofs.lemmas.List.Elements.{All-head, All-tail}
use Rattle.hd_num.specs.declared.vector.Rgb.{Rgb}
use Rattle.hd_num.specs.declared.vector.Vec3.{Vec3}
use Rattle.hd_num.specs.Matrices.{Rows}
use Rattle.hd_num.specs.Points.{transform_point}
use Rattle.hd_rprim.specs.declared.buffer.Tri.{Tri}
use Rattle.hd_draws.specs.DrawList.{if_near, world_triangle, color_of, corner_at, mesh_triangle, mesh_triangles}

abbrev AreFar : List (Option Vec3) → Type 0
AreFar points = All (λ point. point ≡ None) points

no_point : (points : List (Option Vec3)) (n : ℕ) → AreFar points → get_or points n None ≡ None
no_point [] n far = refl
no_point (point ∷ points) zero far = All-head (λ p. p ≡ None) point points far
no_point (point ∷ points) (suc n) far = no_point points n (All-tail (λ p. p ≡ None) point points far)

no_corner : (points : List (Option Vec3)) (index : ℤ) → AreFar points → corner_at points index ≡ None
no_corner points index far =
    elim (int_lt index (pos 0)) as (λ b. cond b None (get_or points (nat_abs index) None) ≡ None) [
      | true ↦ refl
      | false ↦ no_point points (nat_abs index) far
    ]

-- no triangle of such points is drawn
no_triangles : (points : List (Option Vec3)) (colors : List Rgb) (faces : ℕ) (triangles : List Tri) → AreFar points → filter_map (mesh_triangle points colors faces) triangles ≡ []
no_triangles points colors faces [] far = refl
no_triangles points colors faces (t ∷ triangles) far =
    ap (λ first. cons_option (world_triangle first (corner_at points t.b) (corner_at points t.c) (color_of colors faces t.face)) (filter_map (mesh_triangle points colors faces) triangles)) (no_corner points t.a far)
    ∙ no_triangles points colors faces triangles far

pub far_mesh : (points : List Vec3) (triangles : List Tri) (colors : List Rgb) (faces : ℕ) (matrix : Rows) (placed : List (Option Vec3))
    → placed ≡ map (λ p. if_near (transform_point p matrix)) points → All (λ point. point ≡ None) placed → mesh_triangles points triangles colors faces matrix ≡ []
far_mesh points triangles colors faces matrix placed is far =
    no_triangles (map (λ p. if_near (transform_point p matrix)) points) colors faces triangles (subst (λ (ps : List (Option Vec3)). AreFar ps) is far)
