-- What layers author, and the values that their scene has.
use Rattle.std.proofs.Common.{◌≡◌, suc, Bool, true, false, ◌&&◌, cond, List, [], ◌∷◌, map, Option, Some, None, is_some, IsSome, IsSomeAnd, refl, sym, ◌∙◌, ap, arith}
use Rattle.std.proofs.lemmas.List.Sums.{list_all-from_AllPass}
use Rattle.std.specs.Cmp.Lexicographic.{slice_cmp, bytes_decides, texts_ties}
use Rattle.std.specs.List.{find as first}
use Rattle.std.specs.Option.{option_map, option_and_then, option_or}
use Rattle.std.specs.Ordering.{nat_cmp}
use Rattle.std.specs.Str.{bytes_eq}
use Rattle.std.specs.FinMap.{get, find, entries, get-entries}
use Rattle.hd_path.specs.Names.{Name}
use Rattle.hd_path.specs.Paths.{Path}
use Rattle.hd_path.proofs.Logic.{true_is_not}
use Rattle.hd_layer.specs.declared.spec.PrimSpec.{PrimSpec}
use Rattle.hd_layer.specs.declared.spec.Property.{Property}
use Rattle.hd_layer.specs.declared.spec.RawValue.{RawValue}
use Rattle.hd_layer.specs.WellFormed.{is_property}
use Rattle.hd_tokens.specs.Locators.{Locator}
use Rattle.hd_tokens.specs.Properties.{locator_of}
use Rattle.hd_value.specs.declared.value.Value.{Value}
use Rattle.hd_value.specs.Maps.{Map}
use Rattle.hd_schema.specs.Authored.{property_value, authored_at, HasValueOf}
use Rattle.hd_schema.specs.Places.{is_at}
use Rattle.hd_schema.specs.Values.{value_of}
use Rattle.hd_schema.proofs.Apart.{names_apart}
use Rattle.hd_schema.proofs.Lookups.{found_in, chained}
use Rattle.hd_schema.proofs.Putting.{standing, located_stands, is_prefix_self}
use Rattle.hd_schema.proofs.Sorting.{has_name}
use Rattle.hd_schema.proofs.Valued.{authored_each}
use Rattle.hd_scene.specs.Scenes.{value_at}
use Rattle.hd_retained.specs.Layers.{Layer, LayerPrim, Properties, property_of, property_list, properties_of, container_of, scene_of}
use Rattle.hd_retained.proofs.Authoring.{container_authors}
use Rattle.hd_retained.proofs.Spelled.{scene_values}
use Rattle.hd_merging.specs.Laws.{strongest_value}
use Rattle.hd_stack.specs.Stacks.{composed_scene, IsSound, AreSound}
use Rattle.hd_stack.proofs.Strongest.{strongest}
use Rattle.hd_attributes.specs.Attributes.{opinion, attribute}

abbrev named : Name → RawValue → Property
named name value = record { name = name; value = value }

-- a test that the properties of one name pass finds the value of that name
found_by : (test : Property → Bool) (name : Name) → ((p : Property) → test p ≡ bytes_eq name p.name) → (es : List (Name × RawValue)) → first test (map property_of es) ≡ option_map (named name) (find (slice_cmp nat_cmp) name es)
found_by test name passes [] = refl
found_by test name passes (e ∷ es) =
    ap (λ b. cond b (Some (property_of e)) (first test (map property_of es))) (passes (property_of e))
    ∙ elim (bytes_eq name e.0) as (λ b. bytes_eq name e.0 ≡ b → cond b (Some (property_of e)) (first test (map property_of es)) ≡ option_map (named name) (cond b (Some e.1) (find (slice_cmp nat_cmp) name es))) [
      | true ↦ λ same. ap (λ (n : Name). Some (named n e.1)) (sym ((bytes_decides name e.0).0 same))
      | false ↦ λ _. found_by test name passes es
    ] refl
    ∙ ap (λ b. option_map (named name) (cond b (Some e.1) (find (slice_cmp nat_cmp) name es))) (texts_ties name e.0)

found_property : (test : Property → Bool) (name : Name) → ((p : Property) → test p ≡ bytes_eq name p.name) → (properties : Properties) → first test (property_list properties) ≡ option_map (named name) (get properties name)
found_property test name passes properties = found_by test name passes (entries properties) ∙ ap (option_map (named name)) (sym (get-entries properties name))

-- at the locator of a name are the properties of that name
at_name : (name : Name) (at : Locator) → locator_of name ≡ Some at → (p : Property) → is_at p.name at ≡ bytes_eq name p.name
at_name name at located p =
    elim (bytes_eq name p.name) as (λ b. bytes_eq name p.name ≡ b → is_at p.name at ≡ b) [
      | true ↦ λ same. located_stands p.name at (ap locator_of (sym ((bytes_decides name p.name).0 same)) ∙ located)
      | false ↦ λ other. elim (is_at p.name at) as (λ b. is_at p.name at ≡ b → b ≡ false) [
        | true ↦ λ also. sym ((bytes_decides name p.name).1 (names_apart name p.name at at located (standing p.name at also) (is_prefix_self at))) ∙ other
        | false ↦ λ _. refl
      ] refl
    ] refl

-- at the locator of a name, the scene of a layer has what the value of that name becomes
layer_value : (layer : Layer) (path : Path) (name : Name) (at : Locator) → locator_of name ≡ Some at → value_at (scene_of layer) path at ≡ option_and_then (value_of name) (opinion layer path name)
layer_value layer path name at located = scene_values layer path at ∙ by (get layer path)
  where
    given : (o : Option RawValue) → option_and_then property_value (option_map (named name) o) ≡ option_and_then (value_of name) o
    given None = refl
    given (Some v) = refl

    by : (o : Option LayerPrim) → option_and_then (λ (p : LayerPrim). authored_at (property_list p.properties) at) o ≡ option_and_then (value_of name) (option_and_then (λ (p : LayerPrim). get p.properties name) o)
    by None = refl
    by (Some p) = ap (option_and_then property_value) (found_property (λ (q : Property). is_at q.name at) name (at_name name at located) p.properties) ∙ given (get p.properties name)

-- ---- sound layers

-- a property that is well formed has a locator and a value
record IsValued (name : Name) (v : RawValue) : Type 0 where
  pub located : IsSome (locator_of name)
  pub valued : IsSome (value_of name v)

first_there : (o : Option Locator) (p : Option Value) (m : Map) → IsSomeAnd o (λ at. IsSomeAnd p (λ value. get m at ≡ Some value)) → IsSome o × IsSome p
first_there None p m h = absurd h
first_there (Some at) None m h = absurd h
first_there (Some at) (Some v) m h = (refl, refl)

property_valued : (name : Name) (v : RawValue) → is_property (named name v) ≡ true → IsValued name v
property_valued name v formed =
    let ps : List Property = named name v ∷ [] in
    let prim : PrimSpec = record { path = [] ∷ []; kind = []; properties = ps } in
    let has : HasValueOf (container_of (properties_of ps)) (named name v) = authored_each (container_of (properties_of ps)) prim (ap (λ b. (b && true) && true) formed) (container_authors ps) 0 (named name v) (omega arith) in
    let both = first_there (locator_of name) (value_of name v) (container_of (properties_of ps)) has in
    record { located = both.0; valued = both.1 }

-- what a sound layer authors is well formed
authored_valued : (layer : Layer) → IsSound layer → (path : Path) (name : Name) (v : RawValue) → opinion layer path name ≡ Some v → IsValued name v
authored_valued layer sound path name v is =
    chained (λ (p : LayerPrim). get p.properties name) (get layer path) v is (λ p there own.
    property_valued name v (found_in is_property (has_name name) (property_list p.properties) (named name v)
    (list_all-from_AllPass is_property (property_list p.properties) (sound.used path p there))
    (found_property (has_name name) name (λ _. refl) p.properties ∙ ap (option_map (named name)) own)))

rest_sound : (layer : Layer) (layers : List Layer) → AreSound (layer ∷ layers) → AreSound layers
rest_sound layer layers sound k d below = sound (suc k) d (omega (arith, below))

first_sound : (layer : Layer) (layers : List Layer) → AreSound (layer ∷ layers) → IsSound layer
first_sound layer layers sound = sound 0 layer (omega arith)

-- the first that is there, before or after a function that gives something of each
or_then : {A B : Type 0} (f : A → Option B) (one other : Option A) → ((x : A) → one ≡ Some x → IsSome (f x)) → option_or (option_and_then f one) (option_and_then f other) ≡ option_and_then f (option_or one other)
or_then f None other gives = refl
or_then {A} {B} f (Some x) other gives = by (f x) (gives x refl)
  where
    by : (o : Option B) → IsSome o → option_or o (option_and_then f other) ≡ o
    by None some = true_is_not (sym some)
    by (Some y) some = refl

strongest_authored : (layers : List Layer) → AreSound layers → (path : Path) (name : Name) (at : Locator) → locator_of name ≡ Some at → strongest_value (map scene_of layers) path at ≡ option_and_then (value_of name) (attribute layers path name)
strongest_authored [] sound path name at located = refl
strongest_authored (layer ∷ layers) sound path name at located =
    ap (λ (o : Option Value). option_or o (strongest_value (map scene_of layers) path at)) (layer_value layer path name at located)
    ∙ ap (option_or (option_and_then (value_of name) (opinion layer path name))) (strongest_authored layers (rest_sound layer layers sound) path name at located)
    ∙ or_then (value_of name) (opinion layer path name) (attribute layers path name) (λ v is. (authored_valued layer (first_sound layer layers sound) path name v is).valued)

-- at the locator of a name, the scene of sound layers has what the value of the first layer that authors one becomes
pub value_at-composed : (layers : List Layer) → AreSound layers → (path : Path) (name : Name) (at : Locator) → locator_of name ≡ Some at → value_at (composed_scene layers) path at ≡ option_and_then (value_of name) (attribute layers path name)
value_at-composed layers sound path name at located = strongest layers path at sound ∙ strongest_authored layers sound path name at located

-- a name that is no used property's is authored nowhere
pub attribute-unused : (layers : List Layer) → AreSound layers → (path : Path) (name : Name) → locator_of name ≡ None → attribute layers path name ≡ None
attribute-unused [] sound path name unused = refl
attribute-unused (layer ∷ layers) sound path name unused =
    elim (opinion layer path name) as (λ (o : Option RawValue). opinion layer path name ≡ o → option_or o (attribute layers path name) ≡ None) [
      | None ↦ λ _. attribute-unused layers (rest_sound layer layers sound) path name unused
      | Some v ↦ λ is. true_is_not (sym (authored_valued layer (first_sound layer layers sound) path name v is).located ∙ ap is_some unused)
    ] refl

-- ---- other locators

none_found : {X : Type 0} (test : X → Bool) (xs : List X) → ((x : X) → test x ≡ false) → first test xs ≡ None
none_found test [] fails = refl
none_found test (x ∷ xs) fails = ap (λ b. cond b (Some x) (first test xs)) (fails x) ∙ none_found test xs fails

-- at the locator of no name there is nothing
pub value_at-unlocated : (layers : List Layer) → AreSound layers → (path : Path) (at : Locator) → ((name : Name) → locator_of name ≡ Some at → ⊥) → value_at (composed_scene layers) path at ≡ None
value_at-unlocated layers sound path at nowhere = strongest layers path at sound ∙ in_layers layers
  where
    not_at : (p : Property) → is_at p.name at ≡ false
    not_at p = elim (is_at p.name at) as (λ b. is_at p.name at ≡ b → b ≡ false) [
      | true ↦ λ is. absurd (nowhere p.name (standing p.name at is))
      | false ↦ λ _. refl
    ] refl

    in_prim : (o : Option LayerPrim) → option_and_then (λ (p : LayerPrim). authored_at (property_list p.properties) at) o ≡ None
    in_prim None = refl
    in_prim (Some p) = ap (option_and_then property_value) (none_found (λ (q : Property). is_at q.name at) (property_list p.properties) not_at)

    in_layers : (ls : List Layer) → strongest_value (map scene_of ls) path at ≡ None
    in_layers [] = refl
    in_layers (layer ∷ ls) = ap (λ (o : Option Value). option_or o (strongest_value (map scene_of ls) path at)) (scene_values layer path at ∙ in_prim (get layer path)) ∙ in_layers ls
