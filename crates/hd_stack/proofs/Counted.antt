-- How many prims a layer has at most, and the scene of some layers.
use Rattle.std.proofs.Common.{◌≡◌, ℕ, ◌+◌, ◌*◌, ◌≤◌, ◌<◌, suc, Bool, true, false, not, cond, ◌&&◌, if◌then◌else◌, List, [], ◌∷◌, length, map, Option, Some, None, is_some, Result, Ok, Err, refl, sym, ◌∙◌, ap, subst, arith}
use Rattle.std.proofs.lemmas.Bool.{leb-false, leb-true}
use Rattle.std.proofs.lemmas.List.{length-append, length-map}
use Rattle.std.proofs.lemmas.Map.Keys.{IsDistinct-from_sorted}
use Rattle.std.proofs.lemmas.Map.Made.{length-le_from_is_member}
use Rattle.std.specs.Cmp.{IsTotalOrder, eq_by_cmp_equiv}
use Rattle.std.specs.List.{filter_map, flat_map, cons_option, list_any}
use Rattle.std.specs.Prelude.{nat_le, slice_get}
use Rattle.std.specs.declared.cmp.Ordering.{Ordering}
use Rattle.std.specs.Option.{option_map}
use Rattle.std.specs.FinMap.{FinMap, empty, get, contains_key, insert, retain_keys, entries, keys, from_entries, len, len-empty, len-entries, len-insert, contains_key-keys}
use Rattle.hd_layer.specs.declared.edit.Edit.{Edit}
use Rattle.hd_layer.specs.declared.edit.Edit.TheVariants.{Define, Set, Clear, Remove, Rename}
use Rattle.hd_layer.specs.declared.limits.Which.TheVariants.{Prims, Depth}
use Rattle.hd_layer.specs.declared.spec.LayerSpec.{LayerSpec}
use Rattle.hd_layer.specs.Limits.{limit_of}
use Rattle.hd_layer.specs.WellFormed.{is_layer}
use Rattle.hd_path.specs.Paths.{Path, path_cmp, is_prefix}
use Rattle.hd_path.proofs.NamePrefixes.{and_true}
use Rattle.hd_scene.proofs.Ascending.{keys_ascend}
use Rattle.hd_scene.proofs.Children.{path_cmp_total}
use Rattle.hd_scene.specs.Scenes.{Scene}
use Rattle.hd_scene.specs.declared.prims.Entry.{Entry}
use Rattle.hd_retained.specs.declared.fault.EditFault.{EditFault}
use Rattle.hd_retained.specs.declared.fault.EditFault.TheVariants.{NoPrim, PrimThere, UnderItself, Limit}
use Rattle.hd_retained.specs.Layers.{LayerPrim, Layer, layer_of, prim_at_path, entry_at_path, scene_of}
use Rattle.hd_retained.specs.Edits.{State, has_parent, is_full_for, change_prim, with_value, without_value, is_moved_too_deep, moved_prim, edit_layer}
use Rattle.hd_retained.proofs.Closed.{get-left}
use Rattle.hd_merging.specs.Merges.{merged_entry, prims_at, merged_scene}
use Rattle.hd_instancing.specs.Instanced.{instanced_entry, instanced_scene}
use Rattle.hd_flattening.specs.Flattened.{flat_entry, flattened_scene}
use Rattle.hd_stack.specs.Stacks.{composed_scene, AreSound}
use Rattle.hd_stack.specs.Laws.{ScenesAreBounded}
use Rattle.hd_stack.specs.inner.Terminals.{layers_of}
use Rattle.hd_stack.proofs.Layered.{input_layer}

-- a map that is made of a list has at most as many entries
len-from_entries : {K X : Type 0} {R : K → K → Ordering} → IsTotalOrder R → (es : List (K × X)) → len (from_entries {R = R} es) ≤ length es
len-from_entries {X = X} {R = R} o [] = omega (arith, len-empty R X)
len-from_entries {R = R} o (e ∷ es) =
    elim (contains_key (from_entries {R = R} es) e.0) as (λ b. len (insert (from_entries {R = R} es) e.0 e.1) ≡ cond b (len (from_entries {R = R} es)) (len (from_entries {R = R} es) + 1) → len (insert (from_entries {R = R} es) e.0 e.1) ≤ suc (length es)) [
      | true ↦ λ is. omega (arith, is, len-from_entries {R = R} o es)
      | false ↦ λ is. omega (arith, is, len-from_entries {R = R} o es)
    ] (len-insert o (from_entries {R = R} es) e.0 e.1)

-- and so has one that is made of the entries of another map, each changed
len-mapped : {K X Y : Type 0} {R : K → K → Ordering} → IsTotalOrder R → (change : K × X → K × Y) (m : FinMap R X) → len (from_entries {R = R} (map change (entries m))) ≤ len m
len-mapped {R = R} o change m = omega (arith, len-from_entries {R = R} o (map change (entries m)), length-map (entries m) change, len-entries m)

length-filter_map : {A B : Type 0} (f : A → Option B) (xs : List A) → length (filter_map f xs) ≤ length xs
length-filter_map f [] = omega arith
length-filter_map f (x ∷ xs) =
    elim (f x) as (λ o. length (cons_option o (filter_map f xs)) ≤ suc (length xs)) [
      | None ↦ omega (arith, length-filter_map f xs)
      | Some y ↦ omega (arith, length-filter_map f xs)
    ]

keys_length : {X : Type 0} (m : FinMap path_cmp X) → length (keys m) ≡ len m
keys_length m = length-map (entries m) (λ e. e.0) ∙ sym (len-entries m)

-- a layer with fewer paths has at most as many prims
len-fewer : (m n : Layer) → ((q : Path) → contains_key m q ≡ true → contains_key n q ≡ true) → len m ≤ len n
len-fewer m n within =
    let counted = length-le_from_is_member (eq_by_cmp_equiv path_cmp_total) (keys m) (keys n) (IsDistinct-from_sorted path_cmp (keys m) (keys_ascend m)) (λ q there. sym (contains_key-keys n q) ∙ within q (contains_key-keys m q ∙ there)) in
    omega (arith, counted, keys_length m, keys_length n)

abbrev IsFew : Layer → Type 0
IsFew layer = len layer ≤ limit_of Prims

-- what is answered, where it is no refusal
past : (b : Bool) (fault : EditFault) (rest : Result Layer EditFault) (new : Layer) → (if b then Err fault else rest) ≡ Ok new → (b ≡ false) × (rest ≡ Ok new)
past true fault rest new is = cc
past false fault rest new is = (refl, is)

within : (b : Bool) (fault : EditFault) (rest : Result Layer EditFault) (new : Layer) → (if b then rest else Err fault) ≡ Ok new → rest ≡ Ok new
within true fault rest new is = is
within false fault rest new is = cc

done : (layer new : Layer) → ◌≡◌ {A = Result Layer EditFault} (Ok layer) (Ok new) → layer ≡ new
done layer new is = cc

few_by : (layer new : Layer) → ◌≡◌ {A = Result Layer EditFault} (Ok layer) (Ok new) → IsFew layer → IsFew new
few_by layer new is few = subst IsFew (done layer new is) few

few_put : (layer : Layer) (path : Path) (p : LayerPrim) → is_full_for layer path ≡ false → IsFew layer → IsFew (insert layer path p)
few_put layer path p room few =
    elim (contains_key layer path) as (λ b. (not b && nat_le (limit_of Prims) (len layer)) ≡ false → len (insert layer path p) ≡ cond b (len layer) (len layer + 1) → len (insert layer path p) ≤ limit_of Prims) [
      | true ↦ λ _ is. omega (arith, is, few)
      | false ↦ λ free is. omega (arith, is, leb-false (limit_of Prims) (len layer) free)
    ] room (len-insert path_cmp_total layer path p)

few_changed : (change : LayerPrim → LayerPrim) (layer new : Layer) (path : Path) → change_prim change layer path (get layer path) ≡ Ok new → IsFew layer → IsFew new
few_changed change layer new path is few =
    elim (get layer path) as (λ (o : Option LayerPrim). get layer path ≡ o → change_prim change layer path o ≡ Ok new → IsFew new) [
      | None ↦ λ _ wrong. cc
      | Some p ↦ λ there is. few_by (insert layer path (change p)) new is (few_there p there)
    ] refl is
  where
    few_there : (p : LayerPrim) → get layer path ≡ Some p → IsFew (insert layer path (change p))
    few_there p there =
        let same : len (insert layer path (change p)) ≡ len layer = len-insert path_cmp_total layer path (change p) ∙ ap (λ (o : Option LayerPrim). cond (is_some o) (len layer) (len layer + 1)) there in
        omega (arith, same, few)

few_left : (layer : Layer) (path : Path) → IsFew layer → IsFew (retain_keys layer (λ p. not (is_prefix path p)))
few_left layer path few =
    let fewer = len-fewer (retain_keys layer (λ p. not (is_prefix path p))) layer (λ q there. kept q (not (is_prefix path q)) (ap is_some (sym (get-left layer path q)) ∙ there)) in
    omega (arith, fewer, few)
  where
    kept : (q : Path) (b : Bool) → is_some (cond b (get layer q) None) ≡ true → contains_key layer q ≡ true
    kept q true there = there
    kept q false there = cc

few_moved : (layer new : Layer) (from to : Path) → edit_layer layer (Rename from to) ≡ Ok new → IsFew layer → IsFew new
few_moved layer new from to is few =
    let answer : Result Layer EditFault = Ok (from_entries (map (moved_prim from to) (entries layer))) in
    let deep : Result Layer EditFault = if list_any (is_moved_too_deep from to) (keys layer) then Err (Limit Depth) else answer in
    let free : Result Layer EditFault = if contains_key layer to then Err PrimThere else deep in
    let parent : Result Layer EditFault = if not (has_parent layer to) then Err NoPrim else free in
    let under : Result Layer EditFault = if is_prefix from to then Err UnderItself else parent in
    let there = past (not (contains_key layer from)) NoPrim under new is in
    let apart = past (is_prefix from to) UnderItself parent new there.1 in
    let stands = past (not (has_parent layer to)) NoPrim free new apart.1 in
    let absent = past (contains_key layer to) PrimThere deep new stands.1 in
    let shallow = past (list_any (is_moved_too_deep from to) (keys layer)) (Limit Depth) answer new absent.1 in
    few_by (from_entries (map (moved_prim from to) (entries layer))) new shallow.1 (omega (arith, len-mapped path_cmp_total (moved_prim from to) layer, few))

-- an edit keeps a layer within its limit
pub few_edited : (layer new : Layer) (edit : Edit) → edit_layer layer edit ≡ Ok new → len layer ≤ limit_of Prims → len new ≤ limit_of Prims
few_edited layer new (Define kind path) is few =
    let p : LayerPrim = record { kind = kind; properties = empty } in
    let parent = past (not (has_parent layer path)) NoPrim (if is_full_for layer path then Err (Limit Prims) else Ok (insert layer path p)) new is in
    let room = past (is_full_for layer path) (Limit Prims) (Ok (insert layer path p)) new parent.1 in
    few_by (insert layer path p) new room.1 (few_put layer path p room.0 few)
few_edited layer new (Set path None) is few = few_by layer new (within (contains_key layer path) NoPrim (Ok layer) new is) few
few_edited layer new (Set path (Some property)) is few = few_changed (with_value property) layer new path is few
few_edited layer new (Clear path name) is few = few_changed (without_value name) layer new path is few
few_edited layer new (Remove path) is few =
    few_by (retain_keys layer (λ p. not (is_prefix path p))) new (within (contains_key layer path) NoPrim (Ok (retain_keys layer (λ p. not (is_prefix path p)))) new is) (few_left layer path few)
few_edited layer new (Rename from to) is few = few_moved layer new from to is few

-- a layer that was read is within its limit
pub few_read : (l : LayerSpec) → is_layer l ≡ true → len (layer_of l) ≤ limit_of Prims
few_read l is =
    let whole = and_true _ _ is in
    let rising = and_true _ _ whole.0 in
    let few = and_true (nat_le (length (map (λ p. p.path) l.prims)) (limit_of Prims)) _ rising.0 in
    omega (arith, leb-true (length (map (λ p. p.path) l.prims)) (limit_of Prims) few.0, length-map l.prims (λ p. p.path), length-map l.prims prim_at_path, len-from_entries path_cmp_total (map prim_at_path l.prims))

-- the scene of a layer has as many prims at most
len-scene : (layer : Layer) → len (scene_of layer) ≤ len layer
len-scene layer = len-mapped path_cmp_total entry_at_path layer

len-merged : (scenes : List Scene) → len (merged_scene scenes) ≤ length (flat_map keys scenes)
unfolding merged_scene
len-merged scenes =
    let given : List (List ℕ) → Option (List (List ℕ) × Entry) = λ path. option_map (λ (x : Entry). (path, x)) (merged_entry (prims_at scenes path)) in
    omega (arith, len-from_entries path_cmp_total (filter_map given (flat_map keys scenes)), length-filter_map given (flat_map keys scenes))

len-flattened : (scene : Scene) → len (flattened_scene scene) ≤ len scene
unfolding flattened_scene
len-flattened scene = len-mapped path_cmp_total (λ (e : List (List ℕ) × Entry). (e.0, flat_entry scene e.0 e.1)) scene

paths_of_scenes : (layers : List Layer) → AreSound layers → length (flat_map keys (map scene_of layers)) ≤ limit_of Prims * length layers
paths_of_scenes [] sound = omega arith
paths_of_scenes (layer ∷ layers) sound =
    let own = (sound 0 layer (omega arith)).few in
    let rest = paths_of_scenes layers (λ k d l. sound (suc k) d (omega (arith, l))) in
    omega (arith, own, rest, len-scene layer, keys_length (scene_of layer), length-append (keys (scene_of layer)) (flat_map keys (map scene_of layers)))

len-instanced : (scene : Scene) → len (instanced_scene scene) ≤ len scene
unfolding instanced_scene
len-instanced scene = len-mapped path_cmp_total (λ (e : List (List ℕ) × Entry). (e.0, instanced_entry scene e.0 e.1)) scene

pub scenes_bounded : ScenesAreBounded
scenes_bounded layers sound =
    omega (arith, len-flattened (instanced_scene (composed_scene layers)), len-instanced (composed_scene layers), len-merged (map scene_of layers), paths_of_scenes layers sound)

-- and so is the layer of an input of sound ones, and what an edit of it leaves
pub few_input : (inputs : List State) (k : ℕ) (r : State) → k < length inputs → slice_get inputs k ≡ Some r → AreSound (layers_of inputs) → len r.layer ≤ limit_of Prims
few_input inputs k r below is sound =
    subst IsFew (input_layer inputs k r is) (sound k empty (omega (arith, below, length-map inputs (λ (s : State). s.layer)))).few
