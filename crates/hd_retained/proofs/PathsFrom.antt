-- The paths below a path, in the order of their keys.
use Rattle.std.proofs.Common.{◌≡◌, ℕ, true, ◌&&◌, List, [], ◌∷◌, length, map, is_some, refl, sym, ◌∙◌, ap}
use Rattle.std.proofs.lemmas.Bool.Decides.{Decides-eqb}
use Rattle.std.proofs.lemmas.Cmp.{eq_by_cmp_equiv}
use Rattle.std.proofs.lemmas.Map.Views.{Contains-from_any, list_any-from_Contains}
use Rattle.std.specs.BTreeMap.{BTreeMap}
use Rattle.std.specs.FinMap.{get}
use Rattle.std.specs.List.{AllByRecursion, list_all, list_any}
use Rattle.std.specs.List.Sorted.{IsStrictlySortedBy}
use Rattle.std.specs.Ordering.{nat_cmp, eq_by_cmp, ordering_then}
use Rattle.std.specs.declared.cmp.Ordering.TheVariants.{Less}
use Rattle.hd_path.specs.Paths.{path_cmp, is_prefix}
use Rattle.hd_path.proofs.NamePrefixes.{and_true}
use Rattle.hd_scene.proofs.Children.{path_cmp_total}
use Rattle.hd_scene.proofs.Closing.{tied}
use Rattle.hd_retained.specs.declared.stored.DepthKey.{DepthKey}
use Rattle.hd_retained.specs.declared.stored.StoredPrim.{StoredPrim}
use Rattle.hd_retained.specs.Layers.{depth_cmp, ArePathsFrom}
use Rattle.hd_retained.specs.inner.Indexed.{depth_key_cmp, is_placed, layer_in, IsIndex, IsSubtree}
use Rattle.hd_retained.proofs.Listing.{and_is}
use Rattle.hd_retained.proofs.DepthKeys.{listed_paths}
use Rattle.hd_retained.proofs.Kept.{IsPlaced, layer_has}

abbrev pub Names : Type 0
Names = List (List ℕ)

abbrev pub paths_of : List DepthKey → List Names
paths_of keys = map (λ (p : DepthKey). p.path) keys

placed_each : (keys : List DepthKey) → list_all is_placed keys ≡ true → AllByRecursion IsPlaced keys
placed_each [] h = tt
placed_each (p ∷ keys) h =
    let both = and_true (is_placed p) (list_all is_placed keys) h in
    ((Decides-eqb p.depth (length p.path)).0 both.0, placed_each keys both.1)

-- keys of paths are as the paths do by their depth
by_depth : (a b : DepthKey) → IsPlaced a → IsPlaced b → depth_key_cmp a b ≡ Less → depth_cmp a.path b.path ≡ Less
by_depth a b p q less =
    ap (λ (n : ℕ). ordering_then (nat_cmp n (length b.path)) (path_cmp a.path b.path)) (sym p) ∙ ap (λ (n : ℕ). ordering_then (nat_cmp a.depth n) (path_cmp a.path b.path)) (sym q) ∙ less

paths_above : (a : DepthKey) (keys : List DepthKey) → IsPlaced a → AllByRecursion IsPlaced keys → AllByRecursion (λ y. depth_key_cmp a y ≡ Less) keys → AllByRecursion (λ y. depth_cmp a.path y ≡ Less) (paths_of keys)
paths_above a [] p q h = tt
paths_above a (b ∷ keys) p q h = (by_depth a b p q.0 h.0, paths_above a keys p q.1 h.1)

paths_ascend : (keys : List DepthKey) → AllByRecursion IsPlaced keys → IsStrictlySortedBy depth_key_cmp keys → IsStrictlySortedBy depth_cmp (paths_of keys)
unfolding IsStrictlySortedBy
paths_ascend [] p h = tt
paths_ascend (a ∷ keys) p h = (paths_above a keys p.0 p.1 h.0, paths_ascend keys p.1 h.1)

-- the paths of the keys at and below a path
pub paths_from : (m : BTreeMap DepthKey StoredPrim) (path : Names) (keys : List DepthKey) → IsIndex m → IsSubtree m path keys → ArePathsFrom (layer_in m) path (paths_of keys)
paths_from m path keys index subtree =
    let placed = placed_each keys subtree.placed in
    let there : (q : Names) → list_any (eq_by_cmp path_cmp q) (paths_of keys) ≡ (is_prefix path q && is_some (get (layer_in m) q)) = λ q.
    listed_paths q keys placed ∙ subtree.listed q ∙ ap (λ b. is_prefix path q && b) (sym (layer_has m index.sound q)) in
    record {
      ascending = paths_ascend keys placed subtree.ascending;
      there = λ q. (
        λ h. and_true (is_prefix path q) (is_some (get (layer_in m) q)) (sym (there q) ∙ list_any-from_Contains (eq_by_cmp_equiv path_cmp_total) q (paths_of keys) h),
        λ h. Contains-from_any tied q (paths_of keys) (there q ∙ and_is (is_prefix path q) (is_some (get (layer_in m) q)) h.0 h.1),
      );
    }

pub unchanged : (keys : List DepthKey) → map (λ (p : DepthKey). p) keys ≡ keys
unchanged [] = refl
unchanged (p ∷ keys) = ap (λ (ps : List DepthKey). p ∷ ps) (unchanged keys)
