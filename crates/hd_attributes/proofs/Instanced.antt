-- The values of the instanced scene of sound layers, which are those of the composed one but for what instancing adds.
use Rattle.std.proofs.Common.{◌≡◌, Bool, true, false, not, ◌&&◌, cond, List, [], ◌∷◌, Option, Some, None, IsSome, refl, sym, ◌∙◌, ap}
use Rattle.std.proofs.lemmas.Bool.{not-true}
use Rattle.std.specs.Cmp.Lexicographic.{slice_cmp}
use Rattle.std.specs.Ordering.{nat_cmp}
use Rattle.std.specs.Option.{option_map, option_map_or, option_and_then}
use Rattle.std.specs.Prelude.{unwrap_or}
use Rattle.std.specs.FinMap.{get, empty, get-empty}
use Rattle.hd_path.specs.Paths.{Path, is_prefix}
use Rattle.hd_path.proofs.NamePrefixes.{and_true}
use Rattle.hd_path.proofs.Logic.{true_is_not}
use Rattle.hd_tokens.specs.Locators.{Locator, reset_at, instanced_by_at}
use Rattle.hd_value.specs.declared.value.Value.{Value}
use Rattle.hd_value.specs.declared.value.Value.TheVariants.{Flag, Paths}
use Rattle.hd_value.specs.Maps.{Map, set_at}
use Rattle.hd_value.specs.Schema.{is_authored, IsAuthored}
use Rattle.hd_value.proofs.Getting.{eqk, eqk_same}
use Rattle.hd_value.proofs.Setting.{get-set_at}
use Rattle.hd_schema.proofs.Putting.{is_prefix_self}
use Rattle.hd_scene.specs.declared.prims.Entry.{Entry}
use Rattle.hd_scene.specs.Scenes.{Scene, value_at}
use Rattle.hd_retained.specs.Layers.{Layer}
use Rattle.hd_instancing.specs.Targets.{is_root, instanced_by}
use Rattle.hd_instancing.specs.Instanced.{with_reset, with_instancers, instanced_values, instanced_entry, instanced_scene}
use Rattle.hd_instancing.specs.Scenes.{get-instanced}
use Rattle.hd_flattening.specs.Flat.{values_at}
use Rattle.hd_flattening.specs.Values.{is_set, paths_of}
use Rattle.hd_stack.specs.Stacks.{composed_scene, AreSound}
use Rattle.hd_stack.proofs.Layered.{composed_conforms}
use Rattle.hd_attributes.specs.Instances.{is_prototype_root, instancers}
use Rattle.hd_attributes.proofs.Targets.{composed_root, composed_instancers}

-- whether the locator is neither at nor below what instancing adds
abbrev pub is_kept : Locator → Bool
is_kept at = not (is_prefix reset_at at) && not (is_prefix instanced_by_at at)

set_elsewhere : (m : Map) (at q : Locator) (v : Value) → not (is_prefix at q) ≡ true → get (set_at m at v) q ≡ get m q
set_elsewhere m at q v apart =
    get-set_at m at v q
    ∙ elim (eqk q at) as (λ b. eqk q at ≡ b → cond b (Some v) (cond (not (is_prefix at q)) (get m q) None) ≡ get m q) [
      | true ↦ λ same. true_is_not (sym (is_prefix_self at) ∙ ap (is_prefix at) (sym (eqk_same q at same)) ∙ not-true (is_prefix at q) apart)
      | false ↦ λ _. ap (λ b. cond b (get m q) None) apart
    ] refl

with_instancers_elsewhere : (ps : List Path) (m : Map) (q : Locator) → not (is_prefix instanced_by_at q) ≡ true → get (with_instancers ps m) q ≡ get m q
with_instancers_elsewhere [] m q apart = refl
with_instancers_elsewhere (p ∷ ps) m q apart = set_elsewhere m instanced_by_at q (Paths (p ∷ ps)) apart

with_reset_elsewhere : (root : Bool) (m : Map) (q : Locator) → not (is_prefix reset_at q) ≡ true → get (with_reset root m) q ≡ get m q
with_reset_elsewhere false m q apart = refl
with_reset_elsewhere true m q apart = set_elsewhere m reset_at q (Flag true) apart

kept_value : (root : Bool) (ps : List Path) (m : Map) (at : Locator) → is_kept at ≡ true → get (instanced_values root ps m) at ≡ get m at
kept_value root ps m at kept =
    let both = and_true (not (is_prefix reset_at at)) (not (is_prefix instanced_by_at at)) kept in
    with_instancers_elsewhere ps (with_reset root m) at both.1 ∙ with_reset_elsewhere root m at both.0

-- a kept value is that of the scene, whether or not a prim is there
pub get-kept : (scene : Scene) (path : Path) (at : Locator) → is_kept at ≡ true → get (values_at (instanced_scene scene) path) at ≡ value_at scene path at
get-kept scene path at kept = ap (λ (o : Option Entry). get (option_map_or (λ (e : Entry). e.values) o empty) at) (get-instanced scene path) ∙ by (get scene path)
  where
    by : (o : Option Entry) → get (option_map_or (λ (e : Entry). e.values) (option_map (instanced_entry scene path) o) empty) at ≡ option_and_then (λ (e : Entry). get e.values at) o
    by None = get-empty (slice_cmp (slice_cmp nat_cmp)) at
    by (Some e) = kept_value (is_root scene path) (instanced_by scene path) e.values at kept

-- ---- what instancing adds

none_authored : (m : Map) (at : Locator) → IsAuthored m → ((v : Value) → is_authored at v ≡ false) → get m at ≡ None
none_authored m at authored nowhere =
    elim (get m at) as (λ o. get m at ≡ o → o ≡ None) [
      | None ↦ λ _. refl
      | Some v ↦ λ there. true_is_not (sym (authored at v there) ∙ nowhere v)
    ] refl

reset_set : (root : Bool) (m : Map) → IsAuthored m → is_set (get (with_reset root m) reset_at) ≡ root
reset_set true m authored = ap is_set (get-set_at m reset_at (Flag true) reset_at)
reset_set false m authored = ap is_set (none_authored m reset_at authored (λ v. refl))

-- the mark of a root is where the layers have one
pub reset_value : (layers : List Layer) → AreSound layers → (path : Path) → IsSome (get (composed_scene layers) path) → is_set (get (values_at (instanced_scene (composed_scene layers)) path) reset_at) ≡ is_prototype_root layers path
reset_value layers sound path there =
    ap (λ (o : Option Entry). is_set (get (option_map_or (λ (e : Entry). e.values) o empty) reset_at)) (get-instanced (composed_scene layers) path)
    ∙ by (get (composed_scene layers) path) there (composed_conforms layers sound path)
    ∙ composed_root layers sound path
  where
    by : (o : Option Entry) → IsSome o → ((e : Entry) → o ≡ Some e → IsAuthored e.values) → is_set (get (option_map_or (λ (e : Entry). e.values) (option_map (instanced_entry (composed_scene layers) path) o) empty) reset_at) ≡ is_root (composed_scene layers) path
    by None some fits = true_is_not (sym some)
    by (Some e) some fits =
        ap is_set (with_instancers_elsewhere (instanced_by (composed_scene layers) path) (with_reset (is_root (composed_scene layers) path) e.values) reset_at refl)
        ∙ reset_set (is_root (composed_scene layers) path) e.values (fits e refl)

instancers_set : (ps : List Path) (root : Bool) (m : Map) → IsAuthored m → unwrap_or (paths_of (get (with_instancers ps (with_reset root m)) instanced_by_at)) [] ≡ ps
instancers_set [] root m authored =
    ap (λ (o : Option Value). unwrap_or (paths_of o) [])
    (with_reset_elsewhere root m instanced_by_at refl ∙ none_authored m instanced_by_at authored (λ v. refl))
instancers_set (p ∷ ps) root m authored = ap (λ (o : Option Value). unwrap_or (paths_of o) []) (get-set_at (with_reset root m) instanced_by_at (Paths (p ∷ ps)) instanced_by_at)

-- the instancers of a prim are those of the layers
pub instancers_value : (layers : List Layer) → AreSound layers → (path : Path) → IsSome (get (composed_scene layers) path) → unwrap_or (paths_of (get (values_at (instanced_scene (composed_scene layers)) path) instanced_by_at)) [] ≡ instancers layers path
instancers_value layers sound path there =
    ap (λ (o : Option Entry). unwrap_or (paths_of (get (option_map_or (λ (e : Entry). e.values) o empty) instanced_by_at)) []) (get-instanced (composed_scene layers) path)
    ∙ by (get (composed_scene layers) path) there (composed_conforms layers sound path)
    ∙ composed_instancers layers sound path
  where
    by : (o : Option Entry) → IsSome o → ((e : Entry) → o ≡ Some e → IsAuthored e.values) → unwrap_or (paths_of (get (option_map_or (λ (e : Entry). e.values) (option_map (instanced_entry (composed_scene layers) path) o) empty) instanced_by_at)) [] ≡ instanced_by (composed_scene layers) path
    by None some fits = true_is_not (sym some)
    by (Some e) some fits = instancers_set (instanced_by (composed_scene layers) path) (is_root (composed_scene layers) path) e.values (fits e refl)
