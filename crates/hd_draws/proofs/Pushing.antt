-- Items that are added to a list, part by part.
use Rattle.std.proofs.Common.{◌≡◌, ℕ, ◌+◌, ◌<◌, List, [], ◌∷◌, ◌++◌, length, get_or, drop, Option, Some, None, refl, ap, sym, subst, ◌∙◌, append_assoc, length-append, arith}
use Rattle.std.specs.List.{flat_map, filter_map, cons_option}
use Rattle.std.proofs.lemmas.List.{drop_more}
use Rattle.hd_num.specs.declared.vector.Rgb.{Rgb}
use Rattle.hd_num.specs.declared.vector.Vec3.{Vec3}
use Rattle.hd_num.specs.Matrices.{Rows}
use Rattle.hd_num.specs.Points.{transform_point}
use Rattle.hd_picture.specs.declared.draws.WorldTri.{WorldTri}
use Rattle.hd_draws.specs.DrawList.{color_of, point_square, squares_from}

-- a list with one more part is longer
more_than : {X : Type 0} (n : ℕ) (old a b : List X) → n < length (old ++ a) → n < length (old ++ (a ++ b))
more_than n old a b h = omega (arith, length-append old a, length-append old (a ++ b), length-append a b)

cons_option_apart : {X : Type 0} (o : Option X) (xs : List X) → cons_option o xs ≡ cons_option o [] ++ xs
cons_option_apart None xs = refl
cons_option_apart (Some x) xs = refl

-- the parts of the next item are added
pub flat_next : {X Y : Type 0} (f : X → List Y) (old new all : List Y) (x : X) (xs rest : List X) → xs ≡ x ∷ rest → new ≡ old ++ f x → old ++ flat_map f xs ≡ all
    → new ++ flat_map f rest ≡ all
flat_next f old new all x xs rest next added is =
    ap (λ ys. ys ++ flat_map f rest) added ∙ append_assoc old (f x) (flat_map f rest) ∙ sym (ap (λ ys. old ++ flat_map f ys) next) ∙ is

-- all are more than so many where those of the next item are too many
pub flat_more : {X Y : Type 0} (f : X → List Y) (old all : List Y) (x : X) (xs rest : List X) (n : ℕ) → xs ≡ x ∷ rest → old ++ flat_map f xs ≡ all
    → n < length (old ++ f x) → n < length all
flat_more f old all x xs rest n next is h =
    let whole : old ++ (f x ++ flat_map f rest) ≡ all = sym (ap (λ ys. old ++ flat_map f ys) next) ∙ is in
    subst (λ (ys : List _). n < length ys) whole (more_than n old (f x) (flat_map f rest) h)

pub filter_more : {X Y : Type 0} (f : X → Option Y) (old all : List Y) (xs : List X) (i : ℕ) (d : X) (n : ℕ) → i < length xs → old ++ filter_map f (drop i xs) ≡ all
    → n < length (old ++ cons_option (f (get_or xs i d)) []) → n < length all
filter_more f old all xs i d n lt is h =
    subst (λ (ys : List _). n < length ys) is
    (rw (drop_more xs i d lt, cons_option_apart (f (get_or xs i d)) (filter_map f (drop (i + 1) xs)))
    (more_than n old (cons_option (f (get_or xs i d)) []) (filter_map f (drop (i + 1) xs)) h))

-- the squares of the next point, and those of the others
pub squares_more : (count : ℕ) (colors : List Rgb) (matrix : Rows) (old all : List WorldTri) (points : List Vec3) (i : ℕ) (d : Vec3) (n : ℕ) → i < length points
    → old ++ squares_from i count colors matrix (drop i points) ≡ all
    → n < length (old ++ point_square (transform_point (get_or points i d) matrix) (color_of colors count i)) → n < length all
squares_more count colors matrix old all points i d n lt is h =
    subst (λ (ys : List WorldTri). n < length ys) is
    (rw (drop_more points i d lt)
    (more_than n old (point_square (transform_point (get_or points i d) matrix) (color_of colors count i)) (squares_from (i + 1) count colors matrix (drop (i + 1) points)) h))
