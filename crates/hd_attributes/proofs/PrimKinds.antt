-- The kinds and the paths of the scene of layers.
use Rattle.std.proofs.Common.{◌≡◌, ◌||◌, List, [], ◌∷◌, map, Option, Some, None, is_some, refl, sym, ◌∙◌, ap}
use Rattle.std.proofs.lemmas.List.Folds.{list_any-append}
use Rattle.std.specs.List.{list_any, filter_map, flat_map, cons_option}
use Rattle.std.specs.Option.{option_map}
use Rattle.std.specs.Ordering.{eq_by_cmp}
use Rattle.std.specs.FinMap.{get, keys, contains_key-keys}
use Rattle.hd_path.specs.Paths.{Path, path_cmp}
use Rattle.hd_scene.specs.declared.prims.Entry.{Entry}
use Rattle.hd_scene.specs.Scenes.{Scene, kind_at}
use Rattle.hd_scene.proofs.EachPrim.{is_some-map}
use Rattle.hd_scene.proofs.Ascending.{keys_ascend, same_ascending}
use Rattle.hd_scene.proofs.Children.{path_cmp_total, path_cmp_exact}
use Rattle.hd_retained.specs.Layers.{Layer, LayerPrim, entry_of, kind_in, scene_of}
use Rattle.hd_retained.proofs.Kept.{get-scene}
use Rattle.hd_merging.specs.Merges.{table_of, merged_entry, prims_at}
use Rattle.hd_merging.specs.inner.MergedScenes.{get-merged, get-tabulated}
use Rattle.hd_instancing.specs.Instanced.{instanced_scene}
use Rattle.hd_instancing.specs.Scenes.{there-instanced}
use Rattle.hd_flattening.specs.Scenes.{there-flattened}
use Rattle.hd_stack.specs.Stacks.{composed_scene, terminal_scene}
use Rattle.hd_attributes.specs.Attributes as own
use Rattle.hd_attributes.specs.Attributes.{strongest_kind, all_paths}

-- the kinds of the prims at a path
kinds_at : (layers : List Layer) (path : Path) → map (λ (e : Entry). e.kind) (prims_at (map scene_of layers) path) ≡ filter_map (λ layer. kind_in layer path) layers
kinds_at [] path = refl
kinds_at (layer ∷ layers) path =
    ap (λ (o : Option Entry). map (λ (e : Entry). e.kind) (cons_option o (prims_at (map scene_of layers) path))) (get-scene layer path)
    ∙ by (get layer path)
    ∙ ap (cons_option (kind_in layer path)) (kinds_at layers path)
  where
    by : (o : Option LayerPrim) → map (λ (e : Entry). e.kind) (cons_option (option_map entry_of o) (prims_at (map scene_of layers) path)) ≡ cons_option (option_map (λ (p : LayerPrim). p.kind) o) (map (λ (e : Entry). e.kind) (prims_at (map scene_of layers) path))
    by None = refl
    by (Some p) = refl

-- the kind at a path
pub composed_kind : (layers : List Layer) (path : Path) → kind_at (composed_scene layers) path ≡ own.kind_at layers path
composed_kind layers path = ap (option_map (λ (e : Entry). e.kind)) (get-merged (map scene_of layers) path) ∙ by (prims_at (map scene_of layers) path) ∙ ap strongest_kind (kinds_at layers path)
  where
    by : (es : List Entry) → option_map (λ (e : Entry). e.kind) (merged_entry es) ≡ strongest_kind (map (λ (e : Entry). e.kind) es)
    by [] = refl
    by (e ∷ es) = refl

-- a prim is at a path where the layers have a kind there
pub composed_there : (layers : List Layer) (path : Path) → is_some (get (composed_scene layers) path) ≡ is_some (own.kind_at layers path)
composed_there layers path = sym (is_some-map (λ (e : Entry). e.kind) (get (composed_scene layers) path)) ∙ ap is_some (composed_kind layers path)

-- ---- paths

-- a kind is there where the path is one of a layer's
kind_there : (layers : List Layer) (path : Path) → is_some (own.kind_at layers path) ≡ list_any (eq_by_cmp path_cmp path) (flat_map keys layers)
kind_there [] path = refl
kind_there (layer ∷ layers) path =
    by (get layer path)
    ∙ ap (λ b. b || is_some (own.kind_at layers path)) (contains_key-keys layer path)
    ∙ ap (λ b. list_any (eq_by_cmp path_cmp path) (keys layer) || b) (kind_there layers path)
    ∙ sym (list_any-append (eq_by_cmp path_cmp path) (keys layer) (flat_map keys layers))
  where
    by : (o : Option LayerPrim) → is_some (strongest_kind (cons_option (option_map (λ (p : LayerPrim). p.kind) o) (filter_map (λ l. kind_in l path) layers))) ≡ (is_some o || is_some (own.kind_at layers path))
    by None = refl
    by (Some p) = refl

-- whether a path is one of the scene's
pub terminal_there : (layers : List Layer) (path : Path) → is_some (get (terminal_scene layers) path) ≡ is_some (own.kind_at layers path)
terminal_there layers path =
    there-flattened (instanced_scene (composed_scene layers)) path
    ∙ there-instanced (composed_scene layers) path
    ∙ composed_there layers path

table_there : (layers : List Layer) (path : Path) → get (table_of {R = path_cmp} (flat_map keys layers) (own.kind_at layers)) path ≡ own.kind_at layers path
table_there layers path = get-tabulated path_cmp_total path_cmp_exact (own.kind_at layers) (flat_map keys layers) path (λ there. sym (kind_there layers path) ∙ there)

-- the paths of a scene that has a prim where the layers have a kind
keys_of_kinds : (layers : List Layer) (scene : Scene) → ((path : Path) → is_some (get scene path) ≡ is_some (own.kind_at layers path)) → keys scene ≡ all_paths layers
keys_of_kinds layers scene there =
    let table = table_of {R = path_cmp} (flat_map keys layers) (own.kind_at layers) in
    same_ascending path_cmp_total path_cmp_exact (keys scene) (keys table) (keys_ascend scene) (keys_ascend table) (λ q.
    sym (contains_key-keys scene q) ∙ there q ∙ ap is_some (sym (table_there layers q)) ∙ contains_key-keys table q)

pub composed_keys : (layers : List Layer) → keys (composed_scene layers) ≡ all_paths layers
composed_keys layers = keys_of_kinds layers (composed_scene layers) (composed_there layers)

pub terminal_keys : (layers : List Layer) → keys (terminal_scene layers) ≡ all_paths layers
terminal_keys layers = keys_of_kinds layers (terminal_scene layers) (terminal_there layers)
