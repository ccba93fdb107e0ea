-- What is read of the prims of the scene of sound layers.
use Rattle.std.proofs.Common.{◌≡◌, cond, List, [], ◌∷◌, map, codes, Option, Some, None, IsSome, refl, ◌∙◌, ap}
use Rattle.std.specs.Prelude.{unwrap_or}
use Rattle.std.specs.Option.{option_map, option_map_or, option_and_then, option_or}
use Rattle.std.specs.FinMap.{get, empty}
use Rattle.hd_num.specs.Matrices.{Rows}
use Rattle.hd_path.specs.Names.{Name}
use Rattle.hd_path.specs.Paths.{Path}
use Rattle.hd_tokens.specs.Locators.{Locator, points_at, counts_at, indices_at, color_at, matrix_at, visibility_at, purpose_at, binding_at, instanced_by_at, positions_at, proto_indices_at, prototypes_at, material_color_at}
use Rattle.hd_value.specs.declared.value.Value.{Value}
use Rattle.hd_value.specs.Maps.{Map}
use Rattle.hd_value.proofs.Getting.{eqk}
use Rattle.hd_schema.specs.Colors.{byte_color}
use Rattle.hd_scene.specs.Scenes.{IsClosed}
use Rattle.hd_scene.specs.declared.prims.Entry.{Entry}
use Rattle.hd_retained.specs.Layers.{Layer}
use Rattle.hd_instancing.specs.Instanced.{instanced_entry, instanced_scene}
use Rattle.hd_instancing.specs.Scenes.{get-instanced, there-instanced, instanced_closed}
use Rattle.hd_flattening.specs.Values.{token_of, paths_of, colors_of, is_set}
use Rattle.hd_flattening.specs.Flat as flat
use Rattle.hd_flattening.specs.Flat.{ancestors, first_of}
use Rattle.hd_flattening.specs.Flattened.{matrix_value, flat_values, flat_entry}
use Rattle.hd_flattening.specs.Scenes.{get-flattened}
use Rattle.hd_flattening.specs.inner.FlatLocators.{binding_value}
use Rattle.hd_flattening.proofs.Building.{unbound_at, get-flat_values}
use Rattle.hd_rprim.specs.Readings.{vecs_of, ints_of, color_of, matrix_of, purpose_named, matrix_in, visible_in, purpose_in, binding_in, instancers_in, points_in, counts_in, positions_in, proto_indices_in, targets_in, material_color_in}
use Rattle.hd_stack.specs.Scenes.{composed_closed}
use Rattle.hd_stack.specs.Stacks.{composed_scene, terminal_scene, AreSound}
use Rattle.hd_attributes.specs.Attributes as own
use Rattle.hd_attributes.specs.Inherited.{way_to, flat_matrix, is_visible, flat_purpose, flat_binding, flat_colors}
use Rattle.hd_attributes.specs.Instances.{instancers}
use Rattle.hd_attributes.proofs.PrimKinds.{composed_kind}
use Rattle.hd_attributes.proofs.Values as read
use Rattle.hd_attributes.proofs.Instanced.{get-kept, instancers_value}
use Rattle.hd_attributes.proofs.Ways.{AreThere, way_there, values_on_way}
use Rattle.hd_attributes.proofs.Flat.{values_of, matrix_on_way, visible_on_way, purpose_on_way, binding_on_way, colors_on_way}

-- what is read of the values is what the layers give at the path
pub record IsRead (layers : List Layer) (path : Path) (values : Map) : Type 0 where
  pub matrix : matrix_in values ≡ flat_matrix layers (way_to path)
  pub visible : visible_in values ≡ is_visible layers (way_to path)
  pub purpose : purpose_in values ≡ purpose_named (Some (flat_purpose layers (way_to path)))
  pub binding : binding_in values ≡ flat_binding layers (way_to path)
  pub colors : colors_of (get values color_at) ≡ flat_colors layers (way_to path)
  pub instanced_by : instancers_in values ≡ instancers layers path
  pub points : points_in values ≡ own.triples_of layers path (codes "points")
  pub counts : counts_in values ≡ own.numbers_of layers path (codes "faceVertexCounts")
  pub indices : ints_of (get values indices_at) ≡ own.numbers_of layers path (codes "faceVertexIndices")
  pub positions : positions_in values ≡ own.triples_of layers path (codes "positions")
  pub proto_indices : proto_indices_in values ≡ own.numbers_of layers path (codes "protoIndices")
  pub targets : targets_in values ≡ unwrap_or (own.paths_of layers path (codes "prototypes")) []
  pub material_color : material_color_in values ≡ option_map byte_color (own.triple_of layers path (codes "color8"))

-- the values of a prim of the layers' scene
abbrev pub terminal_values : List Layer → Path → Map
terminal_values layers path = flat_values (values_of layers path) (ancestors (instanced_scene (composed_scene layers)) path)

-- the prim at a path, where the layers have a kind there
pub terminal_entry : (layers : List Layer) (path : Path) (kind : Name) → own.kind_at layers path ≡ Some kind → get (terminal_scene layers) path ≡ Some (record { kind = kind; values = terminal_values layers path })
terminal_entry layers path kind is =
    get-flattened (instanced_scene (composed_scene layers)) path
    ∙ by (get (instanced_scene (composed_scene layers)) path)
    (ap (option_map (λ (e : Entry). e.kind)) (get-instanced (composed_scene layers) path) ∙ same_kind (get (composed_scene layers) path) ∙ composed_kind layers path ∙ is)
  where
    same_kind : (o : Option Entry) → option_map (λ (e : Entry). e.kind) (option_map (instanced_entry (composed_scene layers) path) o) ≡ option_map (λ (e : Entry). e.kind) o
    same_kind None = refl
    same_kind (Some e) = refl

    by : (o : Option Entry) → option_map (λ (e : Entry). e.kind) o ≡ Some kind
        → option_map (flat_entry (instanced_scene (composed_scene layers)) path) o ≡ Some (record { kind = kind; values = flat_values (option_map_or (λ (e : Entry). e.values) o empty) (ancestors (instanced_scene (composed_scene layers)) path) })
    by None none = absurd (cc)
    by (Some e) one = let same : e.kind ≡ kind = cc in ap (λ (k : Name). Some (record { kind = k; values = flat_values e.values (ancestors (instanced_scene (composed_scene layers)) path) })) same

-- ---- one value at a time

matrix_back : (m : Option Rows) → matrix_of (Some (matrix_value m)) ≡ m
matrix_back None = refl
matrix_back (Some rows) = refl

binding_back : (path : Option Path) → option_and_then first_of (paths_of (option_or (binding_value path) None)) ≡ path
binding_back None = refl
binding_back (Some path) = refl

-- what is at a locator of flat values
abbrev flat_at : List Layer → Path → Locator → Option Value
flat_at layers path q =
    let prim : Map = values_of layers path in
    let above : List Map = ancestors (instanced_scene (composed_scene layers)) path in
    cond (eqk q binding_at) (option_or (binding_value (flat.flat_binding (prim ∷ above))) (unbound_at prim above q)) (unbound_at prim above q)

module _ (layers : List Layer) (sound : AreSound layers) (path : Path) (there : IsSome (get (composed_scene layers) path)) where
  closed : IsClosed (instanced_scene (composed_scene layers))
  closed = instanced_closed (composed_scene layers) (composed_closed layers sound)

  line : values_of layers path ∷ ancestors (instanced_scene (composed_scene layers)) path ≡ map (values_of layers) (way_to path)
  line = values_on_way (instanced_scene (composed_scene layers)) closed path (there-instanced (composed_scene layers) path ∙ there)

  above_there : AreThere (composed_scene layers) (way_to path)
  above_there = way_there (composed_scene layers) (composed_closed layers sound) path there

  at : (q : Locator) → get (terminal_values layers path) q ≡ flat_at layers path q
  at q = get-flat_values (values_of layers path) (ancestors (instanced_scene (composed_scene layers)) path) q

  pub values_read : IsRead layers path (terminal_values layers path)
  values_read = record {
    matrix = ap matrix_of (at matrix_at) ∙ matrix_back (flat.flat_matrix (values_of layers path ∷ ancestors (instanced_scene (composed_scene layers)) path)) ∙ ap flat.flat_matrix line ∙ matrix_on_way layers sound (way_to path) above_there;
    visible = ap is_set (at visibility_at) ∙ ap flat.is_visible line ∙ visible_on_way layers sound (way_to path);
    purpose = ap (λ (o : Option Value). purpose_named (token_of o)) (at purpose_at) ∙ ap (λ (ms : List Map). purpose_named (Some (flat.flat_purpose ms))) line ∙ ap (λ (n : Name). purpose_named (Some n)) (purpose_on_way layers sound (way_to path));
    binding = ap (λ (o : Option Value). option_and_then first_of (paths_of o)) (at binding_at) ∙ binding_back (flat.flat_binding (values_of layers path ∷ ancestors (instanced_scene (composed_scene layers)) path)) ∙ ap flat.flat_binding line ∙ binding_on_way layers sound (way_to path);
    colors = ap colors_of (at color_at) ∙ ap flat.flat_colors line ∙ colors_on_way layers sound (way_to path);
    instanced_by = ap (λ (o : Option Value). unwrap_or (paths_of o) []) (at instanced_by_at) ∙ instancers_value layers sound path there;
    points = ap vecs_of (at points_at ∙ get-kept (composed_scene layers) path points_at refl) ∙ read.points layers sound path;
    counts = ap ints_of (at counts_at ∙ get-kept (composed_scene layers) path counts_at refl) ∙ read.counts layers sound path;
    indices = ap ints_of (at indices_at ∙ get-kept (composed_scene layers) path indices_at refl) ∙ read.indices layers sound path;
    positions = ap vecs_of (at positions_at ∙ get-kept (composed_scene layers) path positions_at refl) ∙ read.positions layers sound path;
    proto_indices = ap ints_of (at proto_indices_at ∙ get-kept (composed_scene layers) path proto_indices_at refl) ∙ read.proto_indices layers sound path;
    targets = ap (λ (o : Option Value). unwrap_or (paths_of o) []) (at prototypes_at ∙ get-kept (composed_scene layers) path prototypes_at refl) ∙ ap (λ (o : Option (List Path)). unwrap_or o []) (read.prototypes layers sound path);
    material_color = ap color_of (at material_color_at ∙ get-kept (composed_scene layers) path material_color_at refl) ∙ read.material_color layers sound path;
  }
