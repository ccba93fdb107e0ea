-- What prims take from those above them, by the values of a scene and by the attributes of its layers.
use Rattle.std.proofs.Common.{◌≡◌, ℕ, false, not, ◌&&◌, ◌||◌, ◌==◌, if◌then◌else◌, List, [], ◌∷◌, map, length, codes, Option, Some, None, IsSome, refl, ◌∙◌, ap}
use Rattle.std.proofs.lemmas.List.{length-map}
use Rattle.std.specs.Prelude.{unwrap_or}
use Rattle.std.specs.Option.{option_map_or, option_and_then, option_or}
use Rattle.std.specs.FinMap.{get}
use Rattle.hd_num.specs.declared.op.Op.{Op}
use Rattle.hd_num.specs.declared.vector.Rgb.{Rgb}
use Rattle.hd_num.specs.Matrices.{Rows}
use Rattle.hd_path.specs.Names.{Name, is_same}
use Rattle.hd_path.specs.Paths.{Path}
use Rattle.hd_tokens.specs.Locators.{op_at, order_at, reset_at, visibility_at, purpose_at, binding_at, color8_at, display_color_at}
use Rattle.hd_value.specs.Maps.{Map}
use Rattle.hd_scene.specs.Scenes.{value_at}
use Rattle.hd_retained.specs.Layers.{Layer}
use Rattle.hd_instancing.specs.Instanced.{instanced_scene}
use Rattle.hd_flattening.specs.Values.{token_of, tokens_of, paths_of, colors_of, is_set, op_of, named_op}
use Rattle.hd_flattening.specs.Local as local
use Rattle.hd_flattening.specs.Local.{compose, matrix_of, begins_with_reset, listed_name, listed_op}
use Rattle.hd_flattening.specs.Flat as flat
use Rattle.hd_flattening.specs.Flat.{values_at, first_of, or_if_empty, single}
use Rattle.hd_stack.specs.Stacks.{composed_scene, AreSound}
use Rattle.hd_attributes.specs.Attributes as own
use Rattle.hd_attributes.specs.Inherited.{nearest, op_order, ops_product, local as local_matrix, is_reset, flat_matrix, is_invisible, is_visible, flat_purpose, flat_binding, own_colors, flat_colors}
use Rattle.hd_attributes.proofs.Values as read
use Rattle.hd_attributes.proofs.Ops.{listed_op_value}
use Rattle.hd_attributes.proofs.Instanced.{get-kept, reset_value}
use Rattle.hd_attributes.proofs.Ways.{AreThere}

-- the values of a prim after instancing
abbrev pub values_of : List Layer → Path → Map
values_of layers path = values_at (instanced_scene (composed_scene layers)) path

module _ (layers : List Layer) (sound : AreSound layers) where
  -- ---- what is the prim's own

  order : (path : Path) → tokens_of (get (values_of layers path) order_at) ≡ op_order layers path
  order path =
      ap tokens_of (get-kept (composed_scene layers) path order_at refl)
      ∙ read.order layers sound path

  visibility : (path : Path) → token_of (get (values_of layers path) visibility_at) ≡ own.word_of layers path (codes "visibility")
  visibility path =
      ap token_of (get-kept (composed_scene layers) path visibility_at refl)
      ∙ read.visibility layers sound path

  purpose : (path : Path) → token_of (get (values_of layers path) purpose_at) ≡ own.word_of layers path (codes "purpose")
  purpose path =
      ap token_of (get-kept (composed_scene layers) path purpose_at refl)
      ∙ read.purpose layers sound path

  binding : (path : Path) → paths_of (get (values_of layers path) binding_at) ≡ own.paths_of layers path (codes "material:binding")
  binding path =
      ap paths_of (get-kept (composed_scene layers) path binding_at refl)
      ∙ read.binding layers sound path

  color8 : (path : Path) → colors_of (get (values_of layers path) color8_at) ≡ colors_of (value_at (composed_scene layers) path color8_at)
  color8 path = ap colors_of (get-kept (composed_scene layers) path color8_at refl)

  display_color : (path : Path) → colors_of (get (values_of layers path) display_color_at) ≡ colors_of (value_at (composed_scene layers) path display_color_at)
  display_color path = ap colors_of (get-kept (composed_scene layers) path display_color_at refl)

  colors : (path : Path) → flat.own_colors (values_of layers path) ≡ own_colors layers path
  colors path =
      ap (λ (cs : List Rgb). or_if_empty cs (colors_of (get (values_of layers path) display_color_at))) (color8 path ∙ read.color8 layers sound path)
      ∙ ap (or_if_empty _) (display_color path ∙ read.display_color layers sound path)

  op_of_entry : (path : Path) (entry : Name) → listed_op (values_of layers path) entry ≡ own.op_of layers path entry
  op_of_entry path entry = by (listed_name entry) ∙ listed_op_value layers sound path entry
    where
      by : (o : Option Name) → option_and_then (named_op (values_of layers path)) o ≡ option_and_then (λ name. op_of (value_at (composed_scene layers) path (op_at name))) o
      by None = refl
      by (Some name) = ap op_of (get-kept (composed_scene layers) path (op_at name) refl)

  product : (path : Path) (entries : List Name) → local.ops_product (values_of layers path) entries ≡ ops_product layers path entries
  product path [] = refl
  product path (entry ∷ entries) =
      ap (λ (m : Option Rows). compose m (matrix_of (listed_op (values_of layers path) entry))) (product path entries)
      ∙ ap (λ (o : Option Op). compose (ops_product layers path entries) (matrix_of o)) (op_of_entry path entry)

  own_matrix : (path : Path) → local.local (values_of layers path) ≡ local_matrix layers path
  own_matrix path = ap (local.ops_product (values_of layers path)) (order path) ∙ product path (op_order layers path)

  reset : (path : Path) → IsSome (get (composed_scene layers) path) → local.is_reset (values_of layers path) ≡ is_reset layers path
  reset path there =
      ap (λ (ts : List Name). begins_with_reset ts || is_set (get (values_of layers path) reset_at)) (order path)
      ∙ ap (λ b. begins_with_reset (op_order layers path) || b) (reset_value layers sound path there)

  -- ---- what is taken from above

  pub matrix_on_way : (way : List Path) → AreThere (composed_scene layers) way → flat.flat_matrix (map (values_of layers) way) ≡ flat_matrix layers way
  matrix_on_way [] there = refl
  matrix_on_way (path ∷ above) there =
      let maps : List Map = map (values_of layers) above in
      let prim : Map = values_of layers path in
      ap (λ (m : Option Rows). if local.is_reset prim || length maps == 0 then m else compose m (flat.flat_matrix maps)) (own_matrix path)
      ∙ ap (λ b. if b || length maps == 0 then local_matrix layers path else compose (local_matrix layers path) (flat.flat_matrix maps)) (reset path there.0)
      ∙ ap (λ (n : ℕ). if is_reset layers path || n == 0 then local_matrix layers path else compose (local_matrix layers path) (flat.flat_matrix maps)) (length-map above (values_of layers))
      ∙ ap (λ (m : Option Rows). if is_reset layers path || length above == 0 then local_matrix layers path else compose (local_matrix layers path) m) (matrix_on_way above there.1)

  pub visible_on_way : (way : List Path) → flat.is_visible (map (values_of layers) way) ≡ is_visible layers way
  visible_on_way [] = refl
  visible_on_way (path ∷ above) =
      ap (λ (o : Option Name). not (option_map_or (λ word. is_same word (codes "invisible")) o false) && flat.is_visible (map (values_of layers) above)) (visibility path)
      ∙ ap (λ b. not (is_invisible layers path) && b) (visible_on_way above)

  nearest_same : {A : Type 0} (of_values : Map → Option A) (of_path : Path → Option A) → ((path : Path) → of_values (values_of layers path) ≡ of_path path) → (way : List Path) → flat.nearest of_values (map (values_of layers) way) ≡ nearest of_path way
  nearest_same of_values of_path same [] = refl
  nearest_same {A} of_values of_path same (path ∷ above) =
      ap (λ (o : Option A). option_or o (flat.nearest of_values (map (values_of layers) above))) (same path)
      ∙ ap (option_or (of_path path)) (nearest_same of_values of_path same above)

  pub purpose_on_way : (way : List Path) → flat.flat_purpose (map (values_of layers) way) ≡ flat_purpose layers way
  purpose_on_way way = ap (λ (o : Option Name). unwrap_or o (codes "default")) (nearest_same flat.authored_purpose (λ path. own.word_of layers path (codes "purpose")) purpose way)

  pub binding_on_way : (way : List Path) → flat.flat_binding (map (values_of layers) way) ≡ flat_binding layers way
  binding_on_way way = ap (option_and_then first_of) (nearest_same flat.authored_binding (λ path. own.paths_of layers path (codes "material:binding")) binding way)

  pub colors_on_way : (way : List Path) → flat.flat_colors (map (values_of layers) way) ≡ flat_colors layers way
  colors_on_way [] = refl
  colors_on_way (path ∷ above) =
      ap (λ (cs : List Rgb). or_if_empty cs (unwrap_or (flat.nearest flat.own_single (map (values_of layers) above)) [])) (colors path)
      ∙ ap (λ (o : Option (List Rgb)). or_if_empty (own_colors layers path) (unwrap_or o [])) (nearest_same flat.own_single (λ p. single (own_colors layers p)) (λ p. ap single (colors p)) above)
