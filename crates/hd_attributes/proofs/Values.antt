-- The values of the scene of sound layers, read one attribute at a time.
use Rattle.std.proofs.Common.{◌≡◌, List, [], map, codes, Option, Some, None, refl, ◌∙◌, ap}
use Rattle.std.specs.Prelude.{unwrap_or}
use Rattle.std.specs.Option.{option_map, option_and_then}
use Rattle.hd_path.specs.Paths.{Path}
use Rattle.hd_layer.specs.declared.spec.RawValue.{RawValue}
use Rattle.hd_tokens.specs.Locators.{points_at, counts_at, indices_at, display_color_at, color8_at, order_at, visibility_at, purpose_at, binding_at, positions_at, proto_indices_at, prototypes_at, material_color_at}
use Rattle.hd_tokens.specs.Properties.{property_of, content_of, locator_of}
use Rattle.hd_value.specs.declared.value.Value.{Value}
use Rattle.hd_value.specs.declared.value.Value.TheVariants as value
use Rattle.hd_schema.specs.Colors.{byte_color, light_color}
use Rattle.hd_schema.specs.OpValues.{numbers, triples, triple}
use Rattle.hd_schema.specs.Values.{words, paths, word, value_of}
use Rattle.hd_scene.specs.Scenes.{value_at}
use Rattle.hd_retained.specs.Layers.{Layer}
use Rattle.hd_flattening.specs.Values.{tokens_of, token_of, paths_of as paths_in, colors_of}
use Rattle.hd_rprim.specs.Readings.{vecs_of, ints_of, color_of}
use Rattle.hd_stack.specs.Stacks.{composed_scene, AreSound}
use Rattle.hd_attributes.specs.Attributes.{attribute, triples_of, numbers_of, words_of, word_of, triple_of, paths_of}
use Rattle.hd_attributes.proofs.Layers.{value_at-composed}

-- what is read of a value, where the value wraps what is parsed
pub reads : {A B : Type 0} (read : Option Value → B) (wrap : A → Value) (shown : Option A → B) (parse : RawValue → Option A) (given : RawValue → Option Value)
    → read None ≡ shown None → ((x : A) → read (Some (wrap x)) ≡ shown (Some x)) → ((v : RawValue) → given v ≡ option_map wrap (parse v)) → (o : Option RawValue) → read (option_and_then given o) ≡ shown (option_and_then parse o)
reads read wrap shown parse given none some wraps None = none
reads {A} read wrap shown parse given none some wraps (Some v) = ap read (wraps v) ∙ by (parse v)
  where
    by : (o : Option A) → read (option_map wrap o) ≡ shown o
    by None = none
    by (Some x) = some x

-- each used property but ops: where its value is, and what the value is made of
points_value : (v : RawValue) → value_of (codes "points") v ≡ option_map value.Vecs (triples v)
unfolding value_of content_of property_of
points_value v = refl

counts_value : (v : RawValue) → value_of (codes "faceVertexCounts") v ≡ option_map value.Ints (numbers v)
unfolding value_of content_of property_of
counts_value v = refl

indices_value : (v : RawValue) → value_of (codes "faceVertexIndices") v ≡ option_map value.Ints (numbers v)
unfolding value_of content_of property_of
indices_value v = refl

display_color_value : (v : RawValue) → value_of (codes "primvars:displayColor") v ≡ option_map (λ vs. value.Colors (map light_color vs)) (triples v)
unfolding value_of content_of property_of
display_color_value v = refl

color8_value : (v : RawValue) → value_of (codes "primvars:color8") v ≡ option_map (λ vs. value.Colors (map byte_color vs)) (triples v)
unfolding value_of content_of property_of
color8_value v = refl

order_value : (v : RawValue) → value_of (codes "xformOpOrder") v ≡ option_map value.Tokens (words v)
unfolding value_of content_of property_of
order_value v = refl

visibility_value : (v : RawValue) → value_of (codes "visibility") v ≡ option_map value.Token (word v)
unfolding value_of content_of property_of
visibility_value v = refl

purpose_value : (v : RawValue) → value_of (codes "purpose") v ≡ option_map value.Token (word v)
unfolding value_of content_of property_of
purpose_value v = refl

binding_value : (v : RawValue) → value_of (codes "material:binding") v ≡ option_map value.Paths (paths v)
unfolding value_of content_of property_of
binding_value v = refl

positions_value : (v : RawValue) → value_of (codes "positions") v ≡ option_map value.Vecs (triples v)
unfolding value_of content_of property_of
positions_value v = refl

proto_indices_value : (v : RawValue) → value_of (codes "protoIndices") v ≡ option_map value.Ints (numbers v)
unfolding value_of content_of property_of
proto_indices_value v = refl

prototypes_value : (v : RawValue) → value_of (codes "prototypes") v ≡ option_map value.Paths (paths v)
unfolding value_of content_of property_of
prototypes_value v = refl

material_color_value : (v : RawValue) → value_of (codes "color8") v ≡ option_map (λ t. value.Color (byte_color t)) (triple v)
unfolding value_of content_of property_of
material_color_value v = refl

-- the locators of the used properties but ops
points_located : locator_of (codes "points") ≡ Some points_at
unfolding locator_of property_of
points_located = refl

counts_located : locator_of (codes "faceVertexCounts") ≡ Some counts_at
unfolding locator_of property_of
counts_located = refl

indices_located : locator_of (codes "faceVertexIndices") ≡ Some indices_at
unfolding locator_of property_of
indices_located = refl

display_color_located : locator_of (codes "primvars:displayColor") ≡ Some display_color_at
unfolding locator_of property_of
display_color_located = refl

color8_located : locator_of (codes "primvars:color8") ≡ Some color8_at
unfolding locator_of property_of
color8_located = refl

order_located : locator_of (codes "xformOpOrder") ≡ Some order_at
unfolding locator_of property_of
order_located = refl

visibility_located : locator_of (codes "visibility") ≡ Some visibility_at
unfolding locator_of property_of
visibility_located = refl

purpose_located : locator_of (codes "purpose") ≡ Some purpose_at
unfolding locator_of property_of
purpose_located = refl

binding_located : locator_of (codes "material:binding") ≡ Some binding_at
unfolding locator_of property_of
binding_located = refl

positions_located : locator_of (codes "positions") ≡ Some positions_at
unfolding locator_of property_of
positions_located = refl

proto_indices_located : locator_of (codes "protoIndices") ≡ Some proto_indices_at
unfolding locator_of property_of
proto_indices_located = refl

prototypes_located : locator_of (codes "prototypes") ≡ Some prototypes_at
unfolding locator_of property_of
prototypes_located = refl

material_color_located : locator_of (codes "color8") ≡ Some material_color_at
unfolding locator_of property_of
material_color_located = refl

module _ (layers : List Layer) (sound : AreSound layers) (path : Path) where
  pub points : vecs_of (value_at (composed_scene layers) path points_at) ≡ triples_of layers path (codes "points")
  points =
      ap vecs_of (value_at-composed layers sound path (codes "points") points_at points_located)
      ∙ reads vecs_of value.Vecs (λ o. unwrap_or o []) triples (value_of (codes "points")) refl (λ _. refl) points_value (attribute layers path (codes "points"))

  pub counts : ints_of (value_at (composed_scene layers) path counts_at) ≡ numbers_of layers path (codes "faceVertexCounts")
  counts =
      ap ints_of (value_at-composed layers sound path (codes "faceVertexCounts") counts_at counts_located)
      ∙ reads ints_of value.Ints (λ o. unwrap_or o []) numbers (value_of (codes "faceVertexCounts")) refl (λ _. refl) counts_value (attribute layers path (codes "faceVertexCounts"))

  pub indices : ints_of (value_at (composed_scene layers) path indices_at) ≡ numbers_of layers path (codes "faceVertexIndices")
  indices =
      ap ints_of (value_at-composed layers sound path (codes "faceVertexIndices") indices_at indices_located)
      ∙ reads ints_of value.Ints (λ o. unwrap_or o []) numbers (value_of (codes "faceVertexIndices")) refl (λ _. refl) indices_value (attribute layers path (codes "faceVertexIndices"))

  pub display_color : colors_of (value_at (composed_scene layers) path display_color_at) ≡ map light_color (triples_of layers path (codes "primvars:displayColor"))
  display_color =
      ap colors_of (value_at-composed layers sound path (codes "primvars:displayColor") display_color_at display_color_located)
      ∙ reads colors_of (λ vs. value.Colors (map light_color vs)) (λ o. map light_color (unwrap_or o [])) triples (value_of (codes "primvars:displayColor")) refl (λ _. refl) display_color_value (attribute layers path (codes "primvars:displayColor"))

  pub color8 : colors_of (value_at (composed_scene layers) path color8_at) ≡ map byte_color (triples_of layers path (codes "primvars:color8"))
  color8 =
      ap colors_of (value_at-composed layers sound path (codes "primvars:color8") color8_at color8_located)
      ∙ reads colors_of (λ vs. value.Colors (map byte_color vs)) (λ o. map byte_color (unwrap_or o [])) triples (value_of (codes "primvars:color8")) refl (λ _. refl) color8_value (attribute layers path (codes "primvars:color8"))

  pub order : tokens_of (value_at (composed_scene layers) path order_at) ≡ words_of layers path (codes "xformOpOrder")
  order =
      ap tokens_of (value_at-composed layers sound path (codes "xformOpOrder") order_at order_located)
      ∙ reads tokens_of value.Tokens (λ o. unwrap_or o []) words (value_of (codes "xformOpOrder")) refl (λ _. refl) order_value (attribute layers path (codes "xformOpOrder"))

  pub visibility : token_of (value_at (composed_scene layers) path visibility_at) ≡ word_of layers path (codes "visibility")
  visibility =
      ap token_of (value_at-composed layers sound path (codes "visibility") visibility_at visibility_located)
      ∙ reads token_of value.Token (λ o. o) word (value_of (codes "visibility")) refl (λ _. refl) visibility_value (attribute layers path (codes "visibility"))

  pub purpose : token_of (value_at (composed_scene layers) path purpose_at) ≡ word_of layers path (codes "purpose")
  purpose =
      ap token_of (value_at-composed layers sound path (codes "purpose") purpose_at purpose_located)
      ∙ reads token_of value.Token (λ o. o) word (value_of (codes "purpose")) refl (λ _. refl) purpose_value (attribute layers path (codes "purpose"))

  pub binding : paths_in (value_at (composed_scene layers) path binding_at) ≡ paths_of layers path (codes "material:binding")
  binding =
      ap paths_in (value_at-composed layers sound path (codes "material:binding") binding_at binding_located)
      ∙ reads paths_in value.Paths (λ o. o) paths (value_of (codes "material:binding")) refl (λ _. refl) binding_value (attribute layers path (codes "material:binding"))

  pub positions : vecs_of (value_at (composed_scene layers) path positions_at) ≡ triples_of layers path (codes "positions")
  positions =
      ap vecs_of (value_at-composed layers sound path (codes "positions") positions_at positions_located)
      ∙ reads vecs_of value.Vecs (λ o. unwrap_or o []) triples (value_of (codes "positions")) refl (λ _. refl) positions_value (attribute layers path (codes "positions"))

  pub proto_indices : ints_of (value_at (composed_scene layers) path proto_indices_at) ≡ numbers_of layers path (codes "protoIndices")
  proto_indices =
      ap ints_of (value_at-composed layers sound path (codes "protoIndices") proto_indices_at proto_indices_located)
      ∙ reads ints_of value.Ints (λ o. unwrap_or o []) numbers (value_of (codes "protoIndices")) refl (λ _. refl) proto_indices_value (attribute layers path (codes "protoIndices"))

  pub prototypes : paths_in (value_at (composed_scene layers) path prototypes_at) ≡ paths_of layers path (codes "prototypes")
  prototypes =
      ap paths_in (value_at-composed layers sound path (codes "prototypes") prototypes_at prototypes_located)
      ∙ reads paths_in value.Paths (λ o. o) paths (value_of (codes "prototypes")) refl (λ _. refl) prototypes_value (attribute layers path (codes "prototypes"))

  pub material_color : color_of (value_at (composed_scene layers) path material_color_at) ≡ option_map byte_color (triple_of layers path (codes "color8"))
  material_color =
      ap color_of (value_at-composed layers sound path (codes "color8") material_color_at material_color_located)
      ∙ reads color_of (λ t. value.Color (byte_color t)) (λ o. option_map byte_color o) triple (value_of (codes "color8")) refl (λ _. refl) material_color_value (attribute layers path (codes "color8"))
