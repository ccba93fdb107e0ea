-- What is drawn is near enough to the middle of the world.
use Rattle.std.proofs.Common.{◌≡◌, ℕ, zero, suc, ◌+◌, ◌^◌, ℤ, pos, int_lt, nat_abs, Bool, true, false, ◌&&◌, cond, List, [], ◌∷◌, map, length, get_or, Option, Some, None, refl, sym, subst, arith}
use Rattle.std.specs.Prelude.{All, filter_map, flat_map}
use Rattle.std.specs.List.{list_all, cons_option}
use Rattle.std.proofs.lemmas.Int.{ints}
use Rattle.std.proofs.lemmas.Grind.{common_steps}
use Rattle.std.proofs.lemmas.List.Elements.{All-nil, All-cons, All-append}
use Rattle.hd_num.specs.declared.vector.Rgb.{Rgb}
use Rattle.hd_num.specs.declared.vector.Vec3.{Vec3}
use Rattle.hd_num.specs.Matrices.{Rows, is_within}
use Rattle.hd_num.specs.Points.{components, if_point_in_range, transform_point}
use Rattle.hd_path.specs.Paths.{Path}
use Rattle.hd_picture.specs.declared.draws.WorldTri.{WorldTri}
use Rattle.hd_picture.specs.Limits.{IsWithin, IsPointWithin, IsTriWithin}
use Rattle.hd_rprim.specs.declared.buffer.Buffer.{Buffer}
use Rattle.hd_rprim.specs.declared.buffer.Tri.{Tri}
use Rattle.hd_rprim.specs.declared.row.Shape.{Shape}
use Rattle.hd_rprim.specs.declared.row.Shape.TheVariants.{Mesh, Points}
use Rattle.hd_rprim.specs.declared.row.Row.{Row}
use Rattle.hd_rprim.specs.declared.row.Row.TheVariants.{Rprim, Camera, Material, Instancer}
use Rattle.hd_rprim.specs.Shown.{ShownRow}
use Rattle.hd_draws.specs.DrawList.{if_near, world_triangle, color_of, corner_at, mesh_triangle, mesh_triangles, offset, point_square, squares_from, points_of, triangles_of, colors_of, placed_triangles, is_for_pictures, row_draws, shown_draws, draw_list}
use Rattle.hd_draws.specs.Placements.{placements}

-- the two ways to say that a number is from -bound to bound
within_bound : (bound : ℕ) (z : ℤ) → is_within bound z ≡ true → IsWithin bound z
within_bound bound z h = record { low = grind (arith, ints); high = grind (arith, ints) }

and_both : (a b : Bool) → (a && b) ≡ true → (a ≡ true) × (b ≡ true)
and_both true true e = (refl, refl)
and_both true false e = cc
and_both false b e = cc

kept_if : {A : Type 0} (b : Bool) (x y : A) → Some y ≡ cond b (Some x) None → (b ≡ true) × (y ≡ x)
kept_if true x y e = (refl, cc)
kept_if false x y e = cc

-- points

point_within : (bound : ℕ) (p : Vec3) → list_all (is_within bound) (components p) ≡ true → IsPointWithin bound p
point_within bound p h =
    let x = and_both (is_within bound p.x) (list_all (is_within bound) (p.y ∷ p.z ∷ [])) h in
    let y = and_both (is_within bound p.y) (list_all (is_within bound) (p.z ∷ [])) x.1 in
    let z = and_both (is_within bound p.z) true y.1 in
    record { x = within_bound bound p.x x.0; y = within_bound bound p.y y.0; z = within_bound bound p.z z.0 }

within_more : (z : ℤ) → is_within (2 ^ 24) z ≡ true → is_within (2 ^ 30) z ≡ true
within_more z h = grind (arith, common_steps)

all_within_more : (zs : List ℤ) → list_all (is_within (2 ^ 24)) zs ≡ true → list_all (is_within (2 ^ 30)) zs ≡ true
all_within_more [] h = refl
all_within_more (z ∷ zs) h =
    let parts = and_both (is_within (2 ^ 24) z) (list_all (is_within (2 ^ 24)) zs) h in
    rw (within_more z parts.0, all_within_more zs parts.1)

-- a point out of range is not near
pub far_too : (q : Vec3) → None ≡ if_point_in_range q → None ≡ if_near q
unfolding if_point_in_range
far_too q e =
    elim (list_all (is_within (2 ^ 24)) (components q)) as (λ b. list_all (is_within (2 ^ 24)) (components q) ≡ b → None ≡ cond b (Some q) None) [
      | true ↦ λ h.
          let there : None ≡ Some q = subst (λ (b : Bool). None ≡ cond b (Some q) None) (all_within_more (components q) h) e in
          cc
      | false ↦ λ h. refl
    ] refl

pub image_same : (q image : Vec3) → Some image ≡ if_point_in_range q → image ≡ q
unfolding if_point_in_range
image_same q image e = (kept_if (list_all (is_within (2 ^ 30)) (components q)) q image e).1

-- a point that is near is within the bound
near_within : (q p : Vec3) → Some p ≡ if_near q → list_all (is_within (2 ^ 24)) (components p) ≡ true
near_within q p e =
    let kept = kept_if (list_all (is_within (2 ^ 24)) (components q)) q p e in
    subst (λ (r : Vec3). list_all (is_within (2 ^ 24)) (components r) ≡ true) (sym kept.1) kept.0

-- lists

kept_in_front : {Y : Type 0} (P : Y → Type 0) (o : Option Y) (rest : List Y) → ((y : Y) → o ≡ Some y → P y) → All P rest → All P (cons_option o rest)
kept_in_front P None rest each all = all
kept_in_front P (Some y) rest each all = All-cons P y rest (each y refl) all

-- what holds of each value that is kept holds of all of them
all_kept : {X Y : Type 0} (P : Y → Type 0) (f : X → Option Y) → ((x : X) (y : Y) → f x ≡ Some y → P y) → (xs : List X) → All P (filter_map f xs)
all_kept P f each [] = All-nil P
all_kept P f each (x ∷ xs) = kept_in_front P (f x) (filter_map f xs) (each x) (all_kept P f each xs)

-- what holds of all parts holds of the whole
all_joined : {X Y : Type 0} (P : Y → Type 0) (f : X → List Y) → ((x : X) → All P (f x)) → (xs : List X) → All P (flat_map f xs)
all_joined P f each [] = All-nil P
all_joined P f each (x ∷ xs) = All-append P (f x) (flat_map f xs) (each x) (all_joined P f each xs)

-- triangles

abbrev IsCorner : Option Vec3 → Type 0
IsCorner o = (p : Vec3) → o ≡ Some p → IsPointWithin (2 ^ 24) p

near_corner : (q : Vec3) → IsCorner (if_near q)
near_corner q p e = point_within (2 ^ 24) p (near_within q p (sym e))

corners_within : (a b c : Option Vec3) (color : Rgb) (tri : WorldTri) → IsCorner a → IsCorner b → IsCorner c
    → world_triangle a b c color ≡ Some tri → IsTriWithin (2 ^ 24) tri
corners_within None b c color tri in_a in_b in_c e = cc
corners_within (Some p) None c color tri in_a in_b in_c e = cc
corners_within (Some p) (Some q) None color tri in_a in_b in_c e = cc
corners_within (Some p) (Some q) (Some r) color tri in_a in_b in_c e =
    let same : record { a = p; b = q; c = r; color = color } ≡ tri = cc in
    subst (λ (t : WorldTri). IsTriWithin (2 ^ 24) t) same (record { a = in_a p refl; b = in_b q refl; c = in_c r refl })

point_corner : (points : List Vec3) (matrix : Rows) (n : ℕ) → IsCorner (get_or (map (λ p. if_near (transform_point p matrix)) points) n None)
point_corner [] matrix n p e = cc
point_corner (q ∷ points) matrix zero p e = near_corner (transform_point q matrix) p e
point_corner (q ∷ points) matrix (suc n) p e = point_corner points matrix n p e

corner_if : (b : Bool) (o : Option Vec3) → IsCorner o → IsCorner (cond b None o)
corner_if true o is p e = cc
corner_if false o is p e = is p e

named_corner : (points : List Vec3) (matrix : Rows) (index : ℤ) → IsCorner (corner_at (map (λ p. if_near (transform_point p matrix)) points) index)
named_corner points matrix index =
    corner_if (int_lt index (pos 0)) (get_or (map (λ p. if_near (transform_point p matrix)) points) (nat_abs index) None) (point_corner points matrix (nat_abs index))

mesh_within : (points : List Vec3) (triangles : List Tri) (colors : List Rgb) (faces : ℕ) (matrix : Rows) → All (IsTriWithin (2 ^ 24)) (mesh_triangles points triangles colors faces matrix)
mesh_within points triangles colors faces matrix =
    all_kept (IsTriWithin (2 ^ 24)) (mesh_triangle (map (λ p. if_near (transform_point p matrix)) points) colors faces)
    (λ t tri e. corners_within _ _ _ _ tri (named_corner points matrix t.a) (named_corner points matrix t.b) (named_corner points matrix t.c) e)
    triangles

square_within : (p : Vec3) (color : Rgb) → All (IsTriWithin (2 ^ 24)) (point_square p color)
square_within p color =
    kept_in_front (IsTriWithin (2 ^ 24)) (world_triangle (if_near p) (if_near (offset p 1 0)) (if_near (offset p 1 1)) color) _
    (λ tri e. corners_within _ _ _ color tri (near_corner p) (near_corner (offset p 1 0)) (near_corner (offset p 1 1)) e)
    (kept_in_front (IsTriWithin (2 ^ 24)) (world_triangle (if_near p) (if_near (offset p 1 1)) (if_near (offset p 0 1)) color) []
    (λ tri e. corners_within _ _ _ color tri (near_corner p) (near_corner (offset p 1 1)) (near_corner (offset p 0 1)) e)
    (All-nil (IsTriWithin (2 ^ 24))))

squares_within : (number count : ℕ) (colors : List Rgb) (matrix : Rows) (points : List Vec3) → All (IsTriWithin (2 ^ 24)) (squares_from number count colors matrix points)
squares_within number count colors matrix [] = All-nil (IsTriWithin (2 ^ 24))
squares_within number count colors matrix (p ∷ points) =
    All-append (IsTriWithin (2 ^ 24)) (point_square (transform_point p matrix) (color_of colors count number)) (squares_from (number + 1) count colors matrix points)
    (square_within (transform_point p matrix) (color_of colors count number)) (squares_within (number + 1) count colors matrix points)

placed_within : (shape : Shape) (faces : ℕ) (points : List Vec3) (triangles : List Tri) (colors : List Rgb) (matrix : Rows) → All (IsTriWithin (2 ^ 24)) (placed_triangles shape faces points triangles colors matrix)
placed_within Mesh faces points triangles colors matrix = mesh_within points triangles colors faces matrix
placed_within Points faces points triangles colors matrix = squares_within 0 (length points) colors matrix points

all_if : {Y : Type 0} (P : Y → Type 0) (b : Bool) (ys : List Y) → All P ys → All P (cond b ys [])
all_if P true ys all = all
all_if P false ys all = All-nil P

row_within : (rows : List ShownRow) (path : Path) (row : Row) (points triangles colors : Option Buffer) → All (IsTriWithin (2 ^ 24)) (row_draws rows path row points triangles colors)
row_within rows path (Rprim row) points triangles colors =
    all_if (IsTriWithin (2 ^ 24)) (row.visible && is_for_pictures row.purpose) (flat_map (placed_triangles row.shape row.faces (points_of points) (triangles_of triangles) (colors_of colors)) (placements rows path row))
    (all_joined (IsTriWithin (2 ^ 24)) (placed_triangles row.shape row.faces (points_of points) (triangles_of triangles) (colors_of colors))
    (placed_within row.shape row.faces (points_of points) (triangles_of triangles) (colors_of colors)) (placements rows path row))
row_within rows path (Camera matrix) points triangles colors = All-nil (IsTriWithin (2 ^ 24))
row_within rows path (Material color) points triangles colors = All-nil (IsTriWithin (2 ^ 24))
row_within rows path (Instancer row) points triangles colors = All-nil (IsTriWithin (2 ^ 24))

-- each triangle that is drawn
pub draws_within : (rows : List ShownRow) → All (IsTriWithin (2 ^ 24)) (draw_list rows)
draws_within rows = all_joined (IsTriWithin (2 ^ 24)) (shown_draws rows) (λ r. row_within rows r.path r.row _ _ _) rows
