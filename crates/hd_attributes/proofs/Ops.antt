-- The ops that the entries of an order list.
use Rattle.std.proofs.Common.{◌≡◌, Bool, true, false, not, cond, List, [], ◌∷◌, ◌++◌, drop, codes, Option, Some, None, refl, sym, ◌∙◌, ap}
use Rattle.std.specs.List.{find, list_all, list_any}
use Rattle.std.specs.Option.{option_map, option_and_then}
use Rattle.std.specs.Str.{bytes_eq}
use Rattle.std.proofs.lemmas.Bool.{not-true}
use Rattle.hd_path.specs.Names.{Name}
use Rattle.hd_path.specs.Paths.{Path, is_prefix}
use Rattle.hd_path.proofs.Logic.{true_is_not, some_is_not, none_there}
use Rattle.hd_layer.specs.declared.spec.RawValue.{RawValue}
use Rattle.hd_tokens.specs.declared.properties.AttributeKind.{AttributeKind}
use Rattle.hd_tokens.specs.declared.properties.Content.{Content}
use Rattle.hd_tokens.specs.Locators.{Locator, op_at}
use Rattle.hd_tokens.specs.Properties.{UsedProperty, OpKind, op_kinds, used_properties, begins_op, property_of, content_of, locator_of}
use Rattle.hd_value.specs.declared.value.Value.TheVariants as value
use Rattle.hd_schema.specs.OpValues.{op_values, kind_of, op_of_kind}
use Rattle.hd_schema.specs.Values.{op, attribute_value, content_value, value_of}
use Rattle.hd_schema.proofs.Apart.{IsNamed, IsOp, row_cases, row_name, located_row, op_name}
use Rattle.hd_schema.proofs.Lookups.{Each, found_in, is_some-find}
use Rattle.hd_schema.proofs.Putting.{is_prefix_self}
use Rattle.hd_schema.proofs.OpNames.{kind_among}
use Rattle.hd_scene.specs.Scenes.{value_at}
use Rattle.hd_retained.specs.Layers.{Layer}
use Rattle.hd_flattening.specs.Values as flat
use Rattle.hd_flattening.specs.Local.{listed_name}
use Rattle.hd_stack.specs.Stacks.{composed_scene, AreSound}
use Rattle.hd_attributes.specs.Attributes.{attribute, op_of}
use Rattle.hd_attributes.proofs.Layers.{value_at-composed, attribute-unused, value_at-unlocated}
use Rattle.hd_attributes.proofs.Values.{reads}

-- ---- the value of an op's name

abbrev GivesOp : OpKind → Type 0
GivesOp k = (name : Name) (v : RawValue) → attribute_value k.kind name v ≡ op name v

kinds_give_ops : Each GivesOp op_kinds
kinds_give_ops = (λ _ _. refl, (λ _ _. refl, (λ _ _. refl, (λ _ _. refl, (λ _ _. refl, (λ _ _. refl, (λ _ _. refl, tt)))))))

-- the value of an op is the op that its kind gives
op_value : (name : Name) (v : RawValue) (r : UsedProperty) → property_of name ≡ Some r → IsOp name r → value_of name v ≡ option_map value.Op (op_of_kind (kind_of name) v)
unfolding value_of content_of
op_value name v r row h =
    ap (λ (o : Option UsedProperty). option_and_then (λ (c : Content). content_value c name v) (option_map (λ (s : UsedProperty). s.content) o)) (row ∙ ap (λ (s : UsedProperty). Some s) h.is)
    ∙ kind_among GivesOp kinds_give_ops name h.kind h.used (λ k gives _ same. ap (λ (kind : AttributeKind). attribute_value kind name v) (sym same) ∙ gives name v)

-- the locator of an op
op_located : (name : Name) (r : UsedProperty) → property_of name ≡ Some r → IsOp name r → locator_of name ≡ Some (op_at (drop 8 name))
unfolding locator_of
op_located name r row h = ap (option_map (λ (s : UsedProperty). s.locator)) row ∙ ap (λ (s : UsedProperty). Some s.locator) h.is

no_locator : (name : Name) → property_of name ≡ None → locator_of name ≡ None
unfolding locator_of
no_locator name none = ap (option_map (λ (s : UsedProperty). s.locator)) none

-- the entry lists the op of its name
used_op_value : (layers : List Layer) → AreSound layers → (path : Path) (name : Name) (r : UsedProperty) → property_of name ≡ Some r → IsOp name r → flat.op_of (value_at (composed_scene layers) path (op_at (drop 8 name))) ≡ op_of layers path name
used_op_value layers sound path name r row h =
    ap flat.op_of (value_at-composed layers sound path name (op_at (drop 8 name)) (op_located name r row h))
    ∙ reads flat.op_of value.Op (λ o. o) (op_of_kind (kind_of name)) (value_of name) refl (λ _. refl) (λ v. op_value name v r row h) (attribute layers path name)

-- ---- names of no op

-- no other used property's locator is that of an op
none_above : (text : Name) → list_all (λ (r : UsedProperty). not (is_prefix r.locator (op_at text))) used_properties ≡ true
none_above text = refl

-- the name in an op's locator
text_in : Locator → Name
text_in [] = []
text_in (a ∷ []) = []
text_in (a ∷ b ∷ []) = []
text_in (a ∷ b ∷ name ∷ rest) = name

-- where the name of an op is not used, no name has its locator
unused_nowhere : (entry : Name) → begins_op entry ≡ true → property_of entry ≡ None → (name : Name) → locator_of name ≡ Some (op_at (drop 8 entry)) → ⊥
unfolding text_in
unused_nowhere entry begins unused name located =
    located_row name (op_at (drop 8 entry)) located (λ r row is.
    row_cases name r row
    (λ h.
    let apart : not (is_prefix r.locator (op_at (drop 8 entry))) ≡ true = found_in (λ (x : UsedProperty). not (is_prefix x.locator (op_at (drop 8 entry)))) (λ (x : UsedProperty). bytes_eq name x.name) used_properties r (none_above (drop 8 entry)) h.here in
    let here : is_prefix r.locator (op_at (drop 8 entry)) ≡ true = ap (λ w. is_prefix w (op_at (drop 8 entry))) is ∙ is_prefix_self (op_at (drop 8 entry)) in
    true_is_not (sym apart ∙ ap not here))
    (λ h.
    let text : drop 8 name ≡ drop 8 entry = ap (λ (s : UsedProperty). text_in s.locator) (sym h.is) ∙ ap text_in is in
    let same : name ≡ entry = op_name name h.begins ∙ ap (λ t. codes "xformOp:" ++ t) text ∙ sym (op_name entry begins) in
    some_is_not r (sym row ∙ ap property_of same ∙ unused)))

-- no other used property has the kind of an op in its name
lists_no_op : Name → Bool
lists_no_op name = not (list_any (λ k. bytes_eq (kind_of name) k.kind) op_values)

names_list_no_op : list_all (λ (r : UsedProperty). lists_no_op r.name) used_properties ≡ true
unfolding lists_no_op
names_list_no_op = refl

no_op_of_name : (name : Name) (r : UsedProperty) → IsNamed name r → (v : RawValue) → op_of_kind (kind_of name) v ≡ None
unfolding lists_no_op
no_op_of_name name r h v =
    let own : lists_no_op r.name ≡ true = found_in (λ (s : UsedProperty). lists_no_op s.name) (λ (s : UsedProperty). bytes_eq name s.name) used_properties r names_list_no_op h.here in
    ap (option_and_then (λ k. k.op v)) (none_there (find (λ k. bytes_eq (kind_of name) k.kind) op_values) (is_some-find (λ k. bytes_eq (kind_of name) k.kind) op_values ∙ not-true (list_any (λ k. bytes_eq (kind_of name) k.kind) op_values) (ap lists_no_op (row_name name r h) ∙ own)))

always_none : {A B : Type 0} (f : A → Option B) → ((x : A) → f x ≡ None) → (o : Option A) → option_and_then f o ≡ None
always_none f nothing None = refl
always_none f nothing (Some x) = nothing x

-- a name that is no op's has no op
plain-no_op : (layers : List Layer) → AreSound layers → (path : Path) (name : Name) → begins_op name ≡ false → op_of layers path name ≡ None
plain-no_op layers sound path name plain =
    elim (property_of name) as (λ (o : Option UsedProperty). property_of name ≡ o → op_of layers path name ≡ None) [
      | None ↦ λ none. ap (option_and_then (op_of_kind (kind_of name))) (attribute-unused layers sound path name (no_locator name none))
      | Some r ↦ λ row. row_cases name r row (λ h. always_none (op_of_kind (kind_of name)) (no_op_of_name name r h) (attribute layers path name)) (λ h. true_is_not (sym h.begins ∙ plain))
    ] refl

-- the op that an entry lists is that of its name
pub listed_op_value : (layers : List Layer) → AreSound layers → (path : Path) (entry : Name) → option_and_then (λ name. flat.op_of (value_at (composed_scene layers) path (op_at name))) (listed_name entry) ≡ op_of layers path entry
listed_op_value layers sound path entry =
    elim (begins_op entry) as (λ b. begins_op entry ≡ b → option_and_then (λ name. flat.op_of (value_at (composed_scene layers) path (op_at name))) (cond b (Some (drop 8 entry)) None) ≡ op_of layers path entry) [
      | true ↦ λ begins. elim (property_of entry) as (λ (o : Option UsedProperty). property_of entry ≡ o → flat.op_of (value_at (composed_scene layers) path (op_at (drop 8 entry))) ≡ op_of layers path entry) [
        | None ↦ λ none.
            ap flat.op_of (value_at-unlocated layers sound path (op_at (drop 8 entry)) (unused_nowhere entry begins none))
            ∙ ap (option_and_then (op_of_kind (kind_of entry))) (sym (attribute-unused layers sound path entry (no_locator entry none)))
        | Some r ↦ λ row. row_cases entry r row (λ h. true_is_not (sym begins ∙ h.plain)) (λ h. used_op_value layers sound path entry r row h)
      ] refl
      | false ↦ λ plain. sym (plain-no_op layers sound path entry plain)
    ] refl
