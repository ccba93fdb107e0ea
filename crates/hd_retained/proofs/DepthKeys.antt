-- The order of keys, which is that of paths where the keys are those of paths.
use Rattle.std.proofs.Common.{◌≡◌, ℕ, true, false, ◌||◌, List, [], ◌∷◌, length, map, refl, sym, ◌∙◌, ap}
use Rattle.std.proofs.lemmas.Cmp.{on_total, then_total, nat_cmp_total, tied_itself}
use Rattle.std.specs.Cmp.{IsTotalOrder}
use Rattle.std.specs.FinMap.{nat_cmp-IsAntisymmetric}
use Rattle.std.specs.List.{AllByRecursion, list_any}
use Rattle.std.specs.Ordering.{nat_cmp, eq_by_cmp, is_eq, ordering_then}
use Rattle.std.specs.declared.cmp.Ordering.{Ordering}
use Rattle.std.specs.declared.cmp.Ordering.TheVariants.{Less, Equal, Greater}
use Rattle.hd_path.specs.Paths.{Path, path_cmp}
use Rattle.hd_scene.proofs.Children.{path_cmp_total, path_cmp_exact}
use Rattle.hd_scene.proofs.Closing.{is_equal, tied}
use Rattle.hd_retained.specs.declared.stored.DepthKey.{DepthKey}
use Rattle.hd_retained.specs.inner.Indexed.{depth_key_cmp, depth_key_of, is_listed}

pub depth_key_cmp_total : IsTotalOrder depth_key_cmp
depth_key_cmp_total = then_total (on_total (λ (p : DepthKey). p.depth) nat_cmp_total) (on_total (λ (p : DepthKey). p.path) path_cmp_total)

then_not : (r s : Ordering) → is_eq s ≡ false → is_eq (ordering_then r s) ≡ false
then_not Less s h = refl
then_not Equal s h = h
then_not Greater s h = refl

-- the key of a path ties with another one of a path as the paths do
pub tied_key : (q : Path) (p : DepthKey) → p.depth ≡ length p.path → eq_by_cmp depth_key_cmp (depth_key_of q) p ≡ eq_by_cmp path_cmp q p.path
tied_key q p placed =
    elim (eq_by_cmp path_cmp q p.path) as (λ b. eq_by_cmp path_cmp q p.path ≡ b → eq_by_cmp depth_key_cmp (depth_key_of q) p ≡ b) [
      | true ↦ λ same.
          let deep : length q ≡ p.depth = ap length (tied q p.path same) ∙ sym placed in
          ap (λ n. is_eq (ordering_then (nat_cmp n p.depth) (path_cmp q p.path))) deep ∙ ap (λ r. is_eq (ordering_then r (path_cmp q p.path))) (tied_itself nat_cmp_total p.depth) ∙ same
      | false ↦ λ other. then_not (nat_cmp (length q) p.depth) (path_cmp q p.path) other
    ] refl

then_equal : (r s : Ordering) → is_eq (ordering_then r s) ≡ true → (r ≡ Equal) × (s ≡ Equal)
then_equal Less s h = cc
then_equal Equal s h = (refl, is_equal s h)
then_equal Greater s h = cc

-- keys that tie are equal
pub same_key : (a b : DepthKey) → eq_by_cmp depth_key_cmp a b ≡ true → (a.depth ≡ b.depth) × (a.path ≡ b.path)
same_key a b h =
    let both = then_equal (nat_cmp a.depth b.depth) (path_cmp a.path b.path) h in
    (nat_cmp-IsAntisymmetric a.depth b.depth both.0, path_cmp_exact a.path b.path both.1)

pub key_is : (a b : DepthKey) → eq_by_cmp depth_key_cmp a b ≡ true → a ≡ b
key_is a b h =
    let both = same_key a b h in
    ap (λ (n : ℕ). record { depth = n; path = a.path }) both.0 ∙ ap (λ (p : Path). record { depth = b.depth; path = p }) both.1

-- a path is listed where the key of the path is
pub listed_paths : (q : Path) (keys : List DepthKey) → AllByRecursion (λ (p : DepthKey). p.depth ≡ length p.path) keys → list_any (eq_by_cmp path_cmp q) (map (λ (p : DepthKey). p.path) keys) ≡ is_listed keys (depth_key_of q)
listed_paths q [] placed = refl
listed_paths q (p ∷ keys) placed =
    ap (λ b. b || list_any (eq_by_cmp path_cmp q) (map (λ (x : DepthKey). x.path) keys)) (sym (tied_key q p placed.0))
    ∙ ap (λ b. eq_by_cmp depth_key_cmp (depth_key_of q) p || b) (listed_paths q keys placed.1)
