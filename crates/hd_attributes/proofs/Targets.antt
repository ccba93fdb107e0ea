-- The prototypes of instancers, and the instancers of prims.
use Rattle.std.proofs.Common.{◌≡◌, false, List, [], if◌then◌else◌, Option, Some, None, refl, ◌∙◌, ap}
use Rattle.std.specs.Prelude.{filter, unwrap_or}
use Rattle.std.specs.List.{list_any}
use Rattle.std.specs.Option.{option_map, option_map_or, option_and_then}
use Rattle.std.specs.FinMap.{get, keys}
use Rattle.hd_path.specs.Names.{Name}
use Rattle.hd_path.specs.Paths.{Path, is_prefix}
use Rattle.hd_tokens.specs.Locators.{prototypes_at}
use Rattle.hd_value.specs.declared.value.Value.{Value}
use Rattle.hd_value.specs.declared.value.Value.TheVariants as value
use Rattle.hd_scene.specs.declared.prims.Entry.{Entry}
use Rattle.hd_scene.specs.Scenes.{value_at}
use Rattle.hd_scene.specs.Tells.{is_same_path}
use Rattle.hd_retained.specs.Layers.{Layer}
use Rattle.hd_instancing.specs.Targets as scene
use Rattle.hd_instancing.specs.Targets.{is_instancer, targets_of, targets_at, is_root, instanced_by}
use Rattle.hd_instancing.proofs.Prefixed.{any_same, filter_same}
use Rattle.hd_flattening.specs.Values as flat
use Rattle.hd_stack.specs.Stacks.{composed_scene, AreSound}
use Rattle.hd_attributes.specs.Attributes as own
use Rattle.hd_attributes.specs.Attributes.{all_paths, paths_of}
use Rattle.hd_attributes.specs.Instances.{targets, is_prototype_root, instancers}
use Rattle.hd_attributes.proofs.PrimKinds.{composed_kind, composed_keys}
use Rattle.hd_attributes.proofs.Values.{prototypes}

-- the paths of a value, and none where there is another value, or nothing
paths_there : (o : Option Value) → scene.paths_of o ≡ unwrap_or (flat.paths_of o) []
paths_there None = refl
paths_there (Some (value.Paths ps)) = refl
paths_there (Some (value.Token t)) = refl
paths_there (Some (value.Tokens ts)) = refl
paths_there (Some (value.Ints ns)) = refl
paths_there (Some (value.Vecs vs)) = refl
paths_there (Some (value.Color c)) = refl
paths_there (Some (value.Colors cs)) = refl
paths_there (Some (value.Op op)) = refl
paths_there (Some (value.Matrix m)) = refl
paths_there (Some value.Out) = refl
paths_there (Some (value.Flag b)) = refl

-- the targets at a path, where the kind and the paths are those of the layers
pub composed_targets : (layers : List Layer) → AreSound layers → (path : Path) → targets_at (composed_scene layers) path ≡ targets layers path
composed_targets layers sound path =
    by (get (composed_scene layers) path)
    ∙ ap (λ (o : Option Name). if option_map_or is_instancer o false then scene.paths_of (value_at (composed_scene layers) path prototypes_at) else []) (composed_kind layers path)
    ∙ ap (λ (ps : List Path). if option_map_or is_instancer (own.kind_at layers path) false then ps else [])
    (paths_there (value_at (composed_scene layers) path prototypes_at) ∙ ap (λ (o : Option (List Path)). unwrap_or o []) (prototypes layers sound path))
  where
    by : (o : Option Entry) → option_map_or targets_of o [] ≡ (if option_map_or is_instancer (option_map (λ (e : Entry). e.kind) o) false then scene.paths_of (option_and_then (λ (e : Entry). get e.values prototypes_at) o) else [])
    by None = refl
    by (Some e) = refl

-- the roots of prototypes
pub composed_root : (layers : List Layer) → AreSound layers → (path : Path) → is_root (composed_scene layers) path ≡ is_prototype_root layers path
composed_root layers sound path =
    any_same (λ i. list_any (λ target. is_same_path target path) (targets_at (composed_scene layers) i)) (λ i. list_any (λ target. is_same_path target path) (targets layers i)) (keys (composed_scene layers)) (λ i. ap (list_any (λ target. is_same_path target path)) (composed_targets layers sound i))
    ∙ ap (list_any (λ i. list_any (λ target. is_same_path target path) (targets layers i))) (composed_keys layers)

-- the instancers of a prim
pub composed_instancers : (layers : List Layer) → AreSound layers → (path : Path) → instanced_by (composed_scene layers) path ≡ instancers layers path
composed_instancers layers sound path =
    filter_same (λ i. list_any (λ target. is_prefix target path) (targets_at (composed_scene layers) i)) (λ i. list_any (λ target. is_prefix target path) (targets layers i)) (keys (composed_scene layers)) (λ i. ap (list_any (λ target. is_prefix target path)) (composed_targets layers sound i))
    ∙ ap (filter (λ i. list_any (λ target. is_prefix target path) (targets layers i))) (composed_keys layers)
