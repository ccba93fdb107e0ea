-- Edits keep each prim below its parent.
use Rattle.std.proofs.Common.{◌≡◌, ◌≢◌, ℕ, ◌+◌, ◌-◌, Bool, true, false, not, cond, ◌&&◌, ◌||◌, nat_le, List, [], ◌∷◌, ◌++◌, length, length-append, append_assoc, take, Option, Some, None, Result, Ok, Err, if◌then◌else◌, is_some, refl, sym, ◌∙◌, ap, subst, arith}
use Rattle.std.proofs.lemmas.Bool.{leb-true, not-true}
use Rattle.std.specs.Option.{option_map}
use Rattle.std.specs.Ordering.{eq_by_cmp}
use Rattle.std.specs.FinMap.{get, contains_key, insert, retain_keys, get-insert, get-retain_keys, same_map}
use Rattle.std.specs.BTreeMap as tree
use Rattle.std.specs.BTreeMap.{BTreeMap}
use Rattle.hd_path.specs.Paths.{Path, IsPath, path_cmp, is_prefix}
use Rattle.hd_path.specs.Names.{Name, is_same}
use Rattle.hd_path.proofs.NamePrefixes.{same_itself, prefix_of_prefix, and_true}
use Rattle.hd_path.proofs.Logic.{none_there}
use Rattle.hd_scene.specs.Scenes.{IsClosed}
use Rattle.hd_scene.proofs.Children.{path_cmp_total, path_cmp_exact, take-front}
use Rattle.hd_scene.proofs.Closing.{insert_closed}
use Rattle.hd_retained.specs.declared.stored.DepthKey.{DepthKey}
use Rattle.hd_retained.specs.declared.stored.StoredPrim.{StoredPrim}
use Rattle.hd_retained.specs.Layers.{LayerPrim, Layer, entry_of, scene_of}
use Rattle.hd_retained.specs.declared.fault.EditFault.{EditFault}
use Rattle.hd_retained.specs.declared.fault.EditFault.TheVariants.{NoPrim}
use Rattle.hd_retained.specs.Edits.{has_parent, after_remove}
use Rattle.hd_retained.specs.inner.Indexed.{depth_key_cmp, depth_key_of, is_listed, prim_of, layer_in, IsSound, IsSubtree, IsWithout}
use Rattle.hd_retained.proofs.Listing.{and_is}
use Rattle.hd_retained.proofs.Kept.{get-kept, get-scene, scene_has, same_layer}

-- the scene after a prim was put
scene_insert : (layer : Layer) (path : Path) (p : LayerPrim) → scene_of (insert layer path p) ≡ insert (scene_of layer) path (entry_of p)
scene_insert layer path p = same_map path_cmp_total path_cmp_exact (scene_of (insert layer path p)) (insert (scene_of layer) path (entry_of p)) (λ q.
    get-scene (insert layer path p) q
    ∙ ap (option_map entry_of) (get-insert path_cmp_total layer path p q)
    ∙ choice (eq_by_cmp path_cmp q path) (get layer q)
    ∙ ap (cond (eq_by_cmp path_cmp q path) (Some (entry_of p))) (sym (get-scene layer q))
    ∙ sym (get-insert path_cmp_total (scene_of layer) path (entry_of p) q))
  where
    choice : (b : Bool) (o : Option LayerPrim) → option_map entry_of (cond b (Some p) o) ≡ cond b (Some (entry_of p)) (option_map entry_of o)
    choice true o = refl
    choice false o = refl

-- the parent of a path of two names or more
pub parent_is : (path front : Path) (name below : Name) → path ≡ front ++ name ∷ below ∷ [] → (take (length path - 1) path ≡ front ++ name ∷ []) × (nat_le (length path) 1 ≡ false)
parent_is path front name below is =
    let whole : path ≡ (front ++ name ∷ []) ++ below ∷ [] = is ∙ sym (append_assoc front (name ∷ []) (below ∷ [])) in
    let long : length path ≡ length (front ++ name ∷ []) + 1 = ap length whole ∙ length-append (front ++ name ∷ []) (below ∷ []) in
    let some : length (front ++ name ∷ []) ≡ length front + 1 = length-append front (name ∷ []) in
    let shorter : length path - 1 ≡ length (front ++ name ∷ []) = omega arith in (
      ap (λ (n : ℕ). take n path) shorter ∙ ap (take (length (front ++ name ∷ []))) whole ∙ take-front (front ++ name ∷ []) (below ∷ []),
      elim (nat_le (length path) 1) as (λ b. nat_le (length path) 1 ≡ b → b ≡ false) [
        | true ↦ λ short. absurd (omega (arith, leb-true (length path) 1 short))
        | false ↦ λ _. refl
      ] refl,
    )

-- where a prim may be its parent is there
pub parent_there : (layer : Layer) (path front : Path) (name below : Name) → has_parent layer path ≡ true → path ≡ front ++ name ∷ below ∷ [] → is_some (get layer (front ++ name ∷ [])) ≡ true
parent_there layer path front name below may is =
    let parent = parent_is path front name below is in
    sym (ap (λ b. b || contains_key layer (take (length path - 1) path)) parent.1 ∙ ap (λ (q : Path). is_some (get layer q)) parent.0) ∙ may

pub define_closed : (layer : Layer) (path : Path) (p : LayerPrim) → IsClosed (scene_of layer) → path ≢ [] → IsPath path → has_parent layer path ≡ true → IsClosed (scene_of (insert layer path p))
define_closed layer path p closed below_root is_path may =
    subst IsClosed (sym (scene_insert layer path p)) (insert_closed (scene_of layer) path (entry_of p) closed below_root is_path (λ front name below is. scene_has layer (front ++ name ∷ []) ∙ parent_there layer path front name below may is))

pub change_closed : (layer : Layer) (path : Path) (old p : LayerPrim) → IsClosed (scene_of layer) → path ≢ [] → get layer path ≡ Some old → IsClosed (scene_of (insert layer path p))
change_closed layer path old p closed below_root there =
    let here : is_some (get (scene_of layer) path) ≡ true = scene_has layer path ∙ ap is_some there in
    subst IsClosed (sym (scene_insert layer path p))
    (insert_closed (scene_of layer) path (entry_of p) closed below_root (closed.paths path here) (λ front name below is. closed.parents front name below (subst (λ (q : Path). is_some (get (scene_of layer) q) ≡ true) is here)))

-- a layer is closed where its paths are
pub closed_by : (layer : Layer) → is_some (get layer []) ≡ false
    → ((path : Path) (name below : Name) → is_some (get layer (path ++ name ∷ below ∷ [])) ≡ true → is_some (get layer (path ++ name ∷ [])) ≡ true)
    → ((path : Path) → is_some (get layer path) ≡ true → IsPath path) → IsClosed (scene_of layer)
closed_by layer no_root parents paths = record {
  no_root = none_there (get (scene_of layer) []) (scene_has layer [] ∙ no_root);
  parents = λ path name below there. scene_has layer (path ++ name ∷ []) ∙ parents path name below (sym (scene_has layer (path ++ name ∷ below ∷ [])) ∙ there);
  paths = λ path there. paths path (sym (scene_has layer path) ∙ there);
}

-- and the other way round
pub record HasParents (layer : Layer) : Type 0 where
  pub no_root : is_some (get layer []) ≡ false
  pub parents : (path : Path) (name below : Name) → is_some (get layer (path ++ name ∷ below ∷ [])) ≡ true → is_some (get layer (path ++ name ∷ [])) ≡ true
  pub paths : (path : Path) → is_some (get layer path) ≡ true → IsPath path

pub has_parents : (layer : Layer) → IsClosed (scene_of layer) → HasParents layer
has_parents layer closed = record {
  no_root = sym (scene_has layer []) ∙ ap is_some closed.no_root;
  parents = λ path name below there. sym (scene_has layer (path ++ name ∷ [])) ∙ closed.parents path name below (scene_has layer (path ++ name ∷ below ∷ []) ∙ there);
  paths = λ path there. closed.paths path (scene_has layer path ∙ there);
}

-- what is left where all at and below a path is gone
pub get-left : (layer : Layer) (path q : Path) → get (retain_keys layer (λ p. not (is_prefix path p))) q ≡ cond (not (is_prefix path q)) (get layer q) None
get-left layer path q = get-retain_keys layer (λ p. not (is_prefix path p)) q (λ p tie. ap (λ (z : Path). not (is_prefix path z)) (sym (path_cmp_exact q p tie)))

left_there : (b : Bool) (o : Option LayerPrim) → is_some (cond (not b) o None) ≡ (not b && is_some o)
left_there true o = refl
left_there false o = refl

has_left : (layer : Layer) (path q : Path) → is_some (get (retain_keys layer (λ p. not (is_prefix path p))) q) ≡ (not (is_prefix path q) && is_some (get layer q))
has_left layer path q = ap is_some (get-left layer path q) ∙ left_there (is_prefix path q) (get layer q)

pub front_prefix : (front rest : Path) → is_prefix front (front ++ rest) ≡ true
front_prefix [] rest = refl
front_prefix (x ∷ front) rest = and_is (is_same x x) (is_prefix front (front ++ rest)) (same_itself x) (front_prefix front rest)

-- the parent is a prefix
pub parent_prefix : (path : Path) (name below : Name) → is_prefix (path ++ name ∷ []) (path ++ name ∷ below ∷ []) ≡ true
parent_prefix path name below = subst (λ (q : Path). is_prefix (path ++ name ∷ []) q ≡ true) (append_assoc path (name ∷ []) (below ∷ [])) (front_prefix (path ++ name ∷ []) (below ∷ []))

-- a path whose child is not below another one is not below it
pub parent_apart : (at path : Path) (name below : Name) → is_prefix at (path ++ name ∷ below ∷ []) ≡ false → is_prefix at (path ++ name ∷ []) ≡ false
parent_apart at path name below apart =
    elim (is_prefix at (path ++ name ∷ [])) as (λ b. is_prefix at (path ++ name ∷ []) ≡ b → b ≡ false) [
      | true ↦ λ yes. sym (prefix_of_prefix at (path ++ name ∷ []) (path ++ name ∷ below ∷ []) yes (parent_prefix path name below)) ∙ apart
      | false ↦ λ _. refl
    ] refl

pub remove_closed : (layer : Layer) (path : Path) → IsClosed (scene_of layer) → IsClosed (scene_of (retain_keys layer (λ p. not (is_prefix path p))))
remove_closed layer path closed =
    let own = has_parents layer closed in
    closed_by (retain_keys layer (λ p. not (is_prefix path p)))
    (has_left layer path [] ∙ ap (λ b. not (is_prefix path []) && b) own.no_root ∙ never (not (is_prefix path [])))
    (λ q name below there.
    let both = and_true (not (is_prefix path (q ++ name ∷ below ∷ []))) (is_some (get layer (q ++ name ∷ below ∷ []))) (sym (has_left layer path (q ++ name ∷ below ∷ [])) ∙ there) in
    has_left layer path (q ++ name ∷ [])
    ∙ and_is (not (is_prefix path (q ++ name ∷ []))) (is_some (get layer (q ++ name ∷ []))) (ap not (parent_apart path q name below (not-true (is_prefix path (q ++ name ∷ below ∷ [])) both.0))) (own.parents q name below both.1))
    (λ q there. own.paths q (and_true (not (is_prefix path q)) (is_some (get layer q)) (sym (has_left layer path q) ∙ there)).1)
  where
    never : (b : Bool) → (b && false) ≡ false
    never true = refl
    never false = refl

-- a tree without some keys is sound
pub without_sound : (m n : BTreeMap DepthKey StoredPrim) (keys : List DepthKey) → IsSound m → IsWithout m keys n → IsSound n
without_sound m n keys sound without = record {
  placed = λ q there. sound.placed q (still (is_listed keys q) (tree.get depth_key_cmp m q) (ap is_some (sym (without q)) ∙ there));
  stored = λ q h is. sound.stored q h (same (is_listed keys q) (tree.get depth_key_cmp m q) h (sym (without q) ∙ is));
}
  where
    still : (b : Bool) (o : Option StoredPrim) → is_some (cond b None o) ≡ true → is_some o ≡ true
    still true o h = cc
    still false o h = h

    same : (b : Bool) (o : Option StoredPrim) (h : StoredPrim) → cond b None o ≡ Some h → o ≡ Some h
    same true o h e = cc
    same false o h e = e

pub without_layer : (m n : BTreeMap DepthKey StoredPrim) (path : Path) (keys : List DepthKey) → IsSound m → IsSubtree m path keys → IsWithout m keys n → layer_in n ≡ retain_keys (layer_in m) (λ p. not (is_prefix path p))
without_layer m n path keys sound subtree without = same_layer (layer_in n) (retain_keys (layer_in m) (λ p. not (is_prefix path p))) (λ q.
    get-kept n (without_sound m n keys sound without) q
    ∙ ap (option_map prim_of) (without (depth_key_of q) ∙ ap (λ b. cond b None (tree.get depth_key_cmp m (depth_key_of q))) (subtree.listed q))
    ∙ left (is_prefix path q) (tree.get depth_key_cmp m (depth_key_of q))
    ∙ ap (λ (o : Option LayerPrim). cond (not (is_prefix path q)) o None) (sym (get-kept m sound q))
    ∙ sym (get-left (layer_in m) path q))
  where
    left : (b : Bool) (o : Option StoredPrim) → option_map prim_of (cond (b && is_some o) None o) ≡ cond (not b) (option_map prim_of o) None
    left true None = refl
    left true (Some h) = refl
    left false o = refl

-- the layer, or the refusal
abbrev answer : Bool → Layer → Result Layer EditFault
answer b l = if b then Ok l else Err NoPrim

-- the removal is done
pub removed : (old new : Layer) (path : Path) → is_some (get old path) ≡ true → new ≡ retain_keys old (λ p. not (is_prefix path p)) → after_remove old path ≡ Ok new
removed old new path there is =
    ap (λ b. answer b (retain_keys old (λ p. not (is_prefix path p)))) there ∙ ap (λ (l : Layer). answer true l) (sym is)
