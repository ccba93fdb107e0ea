-- The layers that texts spell.
use Rattle.std.proofs.Common.{◌≡◌, ℕ, ◌+◌, ◌-◌, ◌<◌, suc, Bool, true, false, ◌&&◌, ◌||◌, ◌==◌, cond, nat_le, List, [], ◌∷◌, ◌++◌, length, get_or, map, take, drop, Option, Some, None, is_some, option_and_then, Contains, slice_index_or, zero, refl, sym, ◌∙◌, ap, subst, arith, take-append-drop, drop-cons}
use Rattle.std.proofs.lemmas.Bool.Decides.{Decides-eqb}
use Rattle.std.proofs.lemmas.Cmp.{eq_by_cmp_equiv}
use Rattle.std.proofs.lemmas.List.{take_more, map-append}
use Rattle.std.proofs.lemmas.Map.Views.{Contains-from_any}
use Rattle.std.specs.List.{list_all, list_any}
use Rattle.std.specs.Map.{keys_of, lookup}
use Rattle.std.specs.Option.{option_map}
use Rattle.std.specs.Ordering.{eq_by_cmp, is_eq, is_lt, ordering_reverse}
use Rattle.std.specs.declared.cmp.Ordering.{Ordering}
use Rattle.std.specs.declared.cmp.Ordering.TheVariants.{Less, Equal, Greater}
use Rattle.std.specs.FinMap.{get, find, insert, from_entries, from_entries_push, get-insert, get-from_entries}
use Rattle.std.specs.FinMap.Entries.{is_some-find}
use Rattle.std.specs.BTreeMap.{BTreeMap}
use Rattle.hd_layer.specs.declared.spec.PrimSpec.{PrimSpec}
use Rattle.hd_layer.specs.declared.spec.LayerSpec.{LayerSpec}
use Rattle.hd_layer.specs.WellFormed.{is_layer, is_prim_spec, is_below_root, is_property, are_distinct, ascend, has_parent}
use Rattle.hd_path.specs.Paths.{Path, IsPath, path_cmp}
use Rattle.hd_path.proofs.Logic.{true_is_not}
use Rattle.hd_path.proofs.NamePrefixes.{and_true}
use Rattle.hd_schema.specs.Authored.{authored_at}
use Rattle.hd_scene.specs.Scenes.{kind_at, value_at, IsClosed}
use Rattle.hd_scene.specs.declared.prims.Entry.{Entry}
use Rattle.hd_scene.proofs.Children.{path_cmp_total, path_cmp_exact}
use Rattle.hd_scene.proofs.Closing.{tied}
use Rattle.hd_retained.specs.declared.stored.DepthKey.{DepthKey}
use Rattle.hd_retained.specs.declared.stored.StoredPrim.{StoredPrim}
use Rattle.hd_retained.specs.Layers.{LayerPrim, Layer, spelled_prim, prim_at_path, entry_of, kind_in, property_list, layer_of, scene_of}
use Rattle.hd_retained.specs.Laws.{IsAsSpelled}
use Rattle.hd_retained.specs.inner.Indexed.{depth_key_cmp, IsSound}
use Rattle.hd_retained.proofs.Authoring.{container_holds, container_authors}
use Rattle.hd_retained.proofs.Kept.{get-scene}
use Rattle.hd_retained.proofs.Listing.{names}
use Rattle.hd_retained.proofs.Closed.{closed_by, parent_is}

abbrev paths_of : List PrimSpec → List Path
paths_of ps = map (λ (p : PrimSpec). p.path) ps

-- the prims of some of a layer
abbrev pub layer_from : List PrimSpec → Layer
layer_from ps = from_entries (map prim_at_path ps)

spelled_keys : (ps : List PrimSpec) → keys_of (map prim_at_path ps) ≡ paths_of ps
spelled_keys [] = refl
spelled_keys (p ∷ ps) = ap (λ (qs : List Path). p.path ∷ qs) (spelled_keys ps)

spelled_there : (ps : List PrimSpec) (q : Path) → is_some (get (layer_from ps) q) ≡ list_any (eq_by_cmp path_cmp q) (paths_of ps)
spelled_there ps q = ap is_some (get-from_entries path_cmp_total (map prim_at_path ps) q) ∙ is_some-find path_cmp q (map prim_at_path ps) ∙ ap (list_any (eq_by_cmp path_cmp q)) (spelled_keys ps)

-- a fact of each path is one of the path that is listed
all_listed : (fact : Path → Bool) (ps : List Path) (q : Path) → list_all fact ps ≡ true → list_any (eq_by_cmp path_cmp q) ps ≡ true → fact q ≡ true
all_listed fact [] q all there = true_is_not (sym there)
all_listed fact (p ∷ ps) q all there =
    let both = and_true (fact p) (list_all fact ps) all in
    elim (eq_by_cmp path_cmp q p) as (λ b. eq_by_cmp path_cmp q p ≡ b → (b || list_any (eq_by_cmp path_cmp q) ps) ≡ true → fact q ≡ true) [
      | true ↦ λ same _. ap fact (tied q p same) ∙ both.0
      | false ↦ λ _ later. all_listed fact ps q both.1 later
    ] refl there

-- the parts of a well formed layer
record IsSpelled (l : LayerSpec) : Type 0 where
  pub formed : list_all is_prim_spec l.prims ≡ true
  pub ascends : ascend (paths_of l.prims) ≡ true
  pub parents : list_all (has_parent (paths_of l.prims)) (paths_of l.prims) ≡ true

parts : (l : LayerSpec) → is_layer l ≡ true → IsSpelled l
parts l h =
    let a = and_true _ (list_all (has_parent (paths_of l.prims)) (paths_of l.prims)) h in
    let b = and_true _ (ascend (paths_of l.prims)) a.0 in
    let d = and_true _ (list_all is_prim_spec l.prims) b.0 in
    record { formed = d.1; ascends = b.1; parents = a.1 }

spec_below_root : (p : PrimSpec) → is_prim_spec p ≡ true → is_below_root p.path ≡ true
spec_below_root p h =
    let a = and_true _ (are_distinct (names p.properties)) h in
    (and_true (is_below_root p.path) (list_all is_property p.properties) a.0).0

paths_below_root : (ps : List PrimSpec) → list_all is_prim_spec ps ≡ true → list_all is_below_root (paths_of ps) ≡ true
paths_below_root [] h = refl
paths_below_root (p ∷ ps) h =
    let both = and_true (is_prim_spec p) (list_all is_prim_spec ps) h in
    ap (λ b. b && list_all is_below_root (paths_of ps)) (spec_below_root p both.0) ∙ paths_below_root ps both.1

not_there : (b : Bool) → (b ≡ true → ⊥) → b ≡ false
not_there true h = absurd (h refl)
not_there false h = refl

-- each prim of a layer is at a path
abbrev pub ArePaths : Layer → Type 0
ArePaths layer = (path : Path) → is_some (get layer path) ≡ true → IsPath path

pub no_paths : ArePaths (layer_from [])
no_paths path there = true_is_not (sym there ∙ spelled_there [] path)

pub next_paths : (layer : Layer) (at : Path) (p : LayerPrim) → ArePaths layer → IsPath at → ArePaths (insert layer at p)
next_paths layer at p paths is path there =
    elim (eq_by_cmp path_cmp path at) as (λ b. eq_by_cmp path_cmp path at ≡ b → is_some (cond b (Some p) (get layer path)) ≡ true → IsPath path) [
      | true ↦ λ same _. subst IsPath (sym (tied path at same)) is
      | false ↦ λ _ old. paths path old
    ] refl (ap is_some (sym (get-insert path_cmp_total layer at p path)) ∙ there)

-- each prim of a well formed layer is below its parent
pub spelled_closed : (l : LayerSpec) → is_layer l ≡ true → ArePaths (layer_of l) → IsClosed (scene_of (layer_of l))
spelled_closed l h are_paths =
    let p = parts l h in
    let paths : List Path = paths_of l.prims in
    let below_root : list_all is_below_root paths ≡ true = paths_below_root l.prims p.formed in
    closed_by (layer_of l)
    (not_there (is_some (get (layer_of l) [])) (λ there. true_is_not (sym (all_listed is_below_root paths [] below_root (sym (spelled_there l.prims []) ∙ there)))))
    (λ path name below there.
    let q : Path = path ++ name ∷ below ∷ [] in
    let property_list : list_any (eq_by_cmp path_cmp q) paths ≡ true = sym (spelled_there l.prims q) ∙ there in
    let parent = parent_is q path name below refl in
    let has : has_parent paths q ≡ true = all_listed (has_parent paths) paths q p.parents property_list in
    spelled_there l.prims (path ++ name ∷ [])
    ∙ sym (ap (λ b. b || list_any (λ other. is_eq (path_cmp (take (length q - 1) q) other)) paths) (not_one (length q) parent.1) ∙ ap (λ (z : Path). list_any (λ other. is_eq (path_cmp z other)) paths) parent.0)
    ∙ has)
    are_paths
  where
    not_one : (n : ℕ) → nat_le n 1 ≡ false → (n == 1) ≡ false
    not_one n more = not_there (n == 1) (λ one. true_is_not (sym (ap (λ (k : ℕ). nat_le k 1) ((Decides-eqb n 1).0 one)) ∙ more))

is_less : (r : Ordering) → is_lt r ≡ true → r ≡ Less
is_less Less h = refl
is_less Equal h = cc
is_less Greater h = cc

-- a path after another one is not that
after : (p q : Path) → is_lt (path_cmp p q) ≡ true → eq_by_cmp path_cmp q p ≡ false
after p q h = ap is_eq (path_cmp_total.antisymm q p ∙ ap ordering_reverse (is_less (path_cmp p q) h))

last_of : (fact : Path → Bool) (front rest : List PrimSpec) (p : PrimSpec) → list_all fact (paths_of (front ++ p ∷ rest)) ≡ true → fact p.path ≡ true
last_of fact [] rest p h = (and_true (fact p.path) (list_all fact (paths_of rest)) h).0
last_of fact (x ∷ front) rest p h = last_of fact front rest p (and_true (fact x.path) (list_all fact (paths_of (front ++ p ∷ rest))) h).1

-- a path is new after those before it
new_path : (front rest : List PrimSpec) (p : PrimSpec) → ascend (paths_of (front ++ p ∷ rest)) ≡ true → find path_cmp p.path (map prim_at_path front) ≡ None
new_path [] rest p h = refl
new_path (x ∷ front) rest p h =
    let both = and_true (list_all (λ next. is_lt (path_cmp x.path next)) (paths_of (front ++ p ∷ rest))) (ascend (paths_of (front ++ p ∷ rest))) h in
    ap (λ b. cond b (Some (spelled_prim x)) (find path_cmp p.path (map prim_at_path front))) (after x.path p.path (last_of (λ next. is_lt (path_cmp x.path next)) front rest p both.0))
    ∙ new_path front rest p both.1

split_next : (ps : List PrimSpec) (i : ℕ) (p : PrimSpec) → i < length ps → p ≡ get_or ps i p → take i ps ++ p ∷ drop (suc i) ps ≡ ps
split_next ps i p below is =
    ap (λ (x : PrimSpec). take i ps ++ x ∷ drop (suc i) ps) is
    ∙ ap (λ (rest : List PrimSpec). take i ps ++ rest) (sym (drop-cons ps i p below))
    ∙ take-append-drop i ps

-- the next prim is well formed
pub next_formed : (l : LayerSpec) (items : List PrimSpec) (i : ℕ) (p : PrimSpec) → is_layer l ≡ true → items ≡ l.prims → i < length items → p ≡ get_or items i p → is_prim_spec p ≡ true
next_formed l items i p h same below is =
    here (take i items) (drop (suc i) items) (ap (list_all is_prim_spec) (split_next items i p below is ∙ same) ∙ (parts l h).formed)
  where
    here : (front rest : List PrimSpec) → list_all is_prim_spec (front ++ p ∷ rest) ≡ true → is_prim_spec p ≡ true
    here [] rest all = (and_true (is_prim_spec p) (list_all is_prim_spec rest) all).0
    here (x ∷ front) rest all = here front rest (and_true (is_prim_spec x) (list_all is_prim_spec (front ++ p ∷ rest)) all).1

-- the layer with the next prim
pub next_layer : (l : LayerSpec) (items : List PrimSpec) (i : ℕ) (p : PrimSpec) → is_layer l ≡ true → items ≡ l.prims → i < length items → p ≡ get_or items i p → insert (layer_from (take i items)) p.path (spelled_prim p) ≡ layer_from (take (i + 1) items)
next_layer l items i p h same below is =
    let ascends : ascend (paths_of (take i items ++ p ∷ drop (suc i) items)) ≡ true = ap (λ (ps : List PrimSpec). ascend (paths_of ps)) (split_next items i p below is ∙ same) ∙ (parts l h).ascends in
    sym (from_entries_push path_cmp_total path_cmp_exact (map prim_at_path (take i items)) p.path (spelled_prim p) (new_path (take i items) (drop (suc i) items) p ascends))
    ∙ ap (λ (es : List (Path × LayerPrim)). from_entries {R = path_cmp} es) (sym (map-append prim_at_path (take i items) (p ∷ [])) ∙ ap (map prim_at_path) (sym (take_more items i p below ∙ ap (λ (x : PrimSpec). take i items ++ x ∷ []) (sym is))))

pub empty_sound : (m : BTreeMap DepthKey StoredPrim) → m.entries ≡ [] → IsSound m
empty_sound m none = record {
  placed = λ q there. true_is_not (sym there ∙ ap (λ (es : List (DepthKey × StoredPrim)). is_some (lookup (λ k. is_eq (depth_key_cmp q k)) es)) none);
  stored = λ q h is. absurd (nothing h (sym is ∙ ap (lookup (λ k. is_eq (depth_key_cmp q k))) none));
}
  where
    nothing : (h : StoredPrim) → Some h ≡ None → ⊥
    nothing h e = cc

-- a fact of each path is one of the path of a prim of the list
all_of_prims : (fact : Path → Bool) (ps : List PrimSpec) (p : PrimSpec) (k : ℕ) → list_all fact (paths_of ps) ≡ true → k < length ps → slice_index_or ps k p ≡ p → fact p.path ≡ true
all_of_prims fact [] p k all below is = absurd (omega arith)
all_of_prims fact (x ∷ ps) p zero all below is = ap (λ (q : PrimSpec). fact q.path) (sym is) ∙ (and_true (fact x.path) (list_all fact (paths_of ps)) all).0
all_of_prims fact (x ∷ ps) p (suc k) all below is = all_of_prims fact ps p k (and_true (fact x.path) (list_all fact (paths_of ps)) all).1 (omega arith) is

-- a prim of ascending ones is found at its path
found_spelled : (ps : List PrimSpec) (p : PrimSpec) (k : ℕ) → ascend (paths_of ps) ≡ true → k < length ps → slice_index_or ps k p ≡ p → find path_cmp p.path (map prim_at_path ps) ≡ Some (spelled_prim p)
found_spelled [] p k ascends below is = absurd (omega arith)
found_spelled (x ∷ ps) p zero ascends below is =
    ap (λ (q : PrimSpec). find path_cmp p.path (map prim_at_path (q ∷ ps))) is
    ∙ ap (λ b. cond b (Some (spelled_prim p)) (find path_cmp p.path (map prim_at_path ps))) ((eq_by_cmp_equiv path_cmp_total).refl p.path)
found_spelled (x ∷ ps) p (suc k) ascends below is =
    let both = and_true (list_all (λ next. is_lt (path_cmp x.path next)) (paths_of ps)) (ascend (paths_of ps)) ascends in
    ap (λ b. cond b (Some (spelled_prim x)) (find path_cmp p.path (map prim_at_path ps))) (after x.path p.path (all_of_prims (λ next. is_lt (path_cmp x.path next)) ps p k both.0 (omega arith) is))
    ∙ found_spelled ps p k both.1 (omega arith) is

-- what the scene of a layer has at a path
pub scene_kinds : (layer : Layer) (path : Path) → kind_at (scene_of layer) path ≡ kind_in layer path
scene_kinds layer path = ap (option_map (λ (e : Entry). e.kind)) (get-scene layer path) ∙ inside (get layer path)
  where
    inside : (o : Option LayerPrim) → option_map (λ (e : Entry). e.kind) (option_map entry_of o) ≡ option_map (λ (p : LayerPrim). p.kind) o
    inside None = refl
    inside (Some p) = refl

pub scene_values : (layer : Layer) (path at : Path) → value_at (scene_of layer) path at ≡ option_and_then (λ (p : LayerPrim). authored_at (property_list p.properties) at) (get layer path)
scene_values layer path at = ap (option_and_then (λ (e : Entry). get e.values at)) (get-scene layer path) ∙ inside (get layer path)
  where
    inside : (o : Option LayerPrim) → option_and_then (λ (e : Entry). get e.values at) (option_map entry_of o) ≡ option_and_then (λ (p : LayerPrim). authored_at (property_list p.properties) at) o
    inside None = refl
    inside (Some p) = container_holds p.properties at

-- a text spells its prims and no other
pub layer_as_spelled : (l : LayerSpec) → is_layer l ≡ true → IsAsSpelled l (layer_of l)
layer_as_spelled l h =
    let there : (p : PrimSpec) → Contains l.prims p → get (layer_of l) p.path ≡ Some (spelled_prim p) = λ p property_list. get-from_entries path_cmp_total (map prim_at_path l.prims) p.path ∙ found_spelled l.prims p property_list.0 (parts l h).ascends property_list.1 property_list.2 in
    record {
      kinds = λ p property_list. ap (option_map (λ (q : LayerPrim). q.kind)) (there p property_list);
      values = λ p at property_list.
          ap (option_and_then (λ (e : Entry). get e.values at)) (get-scene (layer_of l) p.path ∙ ap (option_map entry_of) (there p property_list))
          ∙ container_authors p.properties at;
      paths = λ path is. Contains-from_any tied path (paths_of l.prims) (sym (spelled_there l.prims path) ∙ is);
    }
