-- Each value may are where it is.
use Rattle.std.proofs.Common.{◌≡◌, ℕ, ℤ, pos, negsuc, Bool, true, false, ◌&&◌, ◌||◌, ◌==◌, nat_eq, if◌then◌else◌, List, [], ◌∷◌, map, length, drop, Option, Some, refl, ap, sym, ◌∙◌}
use Rattle.std.specs.Cmp.Lexicographic.{bytes_decides}
use Rattle.std.specs.List.{find, list_all}
use Rattle.std.specs.Option.{option_map, option_and_then}
use Rattle.std.specs.Str.{bytes_eq}
use Rattle.hd_num.specs.declared.vector.Vec3.{Vec3}
use Rattle.hd_path.specs.Names.{Name}
use Rattle.hd_path.proofs.Logic.{some_is_not}
use Rattle.hd_path.proofs.NamePrefixes.{and_true}
use Rattle.hd_tokens.specs.declared.properties.AttributeKind.{AttributeKind}
use Rattle.hd_tokens.specs.declared.properties.Content.{Content}
use Rattle.hd_tokens.specs.declared.properties.Content.TheVariants.{Attribute, Targets}
use Rattle.hd_layer.specs.declared.spec.PrimSpec.{PrimSpec}
use Rattle.hd_layer.specs.declared.spec.Property.{Property}
use Rattle.hd_layer.specs.declared.spec.RawValue.{RawValue}
use Rattle.hd_layer.specs.declared.spec.RawValue.TheVariants as raw
use Rattle.hd_tokens.specs.Locators.{Locator, points_at, counts_at, indices_at, display_color_at, color8_at, order_at, op_at, visibility_at, purpose_at, binding_at, positions_at, proto_indices_at, prototypes_at, material_color_at}
use Rattle.hd_tokens.specs.Names.{is_any}
use Rattle.hd_tokens.specs.Properties.{UsedProperty, OpKind, used_properties, op_kinds, property_of, content_of, attribute_kind_in, attribute_kind_of, is_target_name, locator_of, visibilities, purposes}
use Rattle.hd_layer.specs.WellFormed.{has_form, has_value, are_paths, are_words, are_op_entries, are_distinct, is_single, is_list, is_below_root, is_property, is_prim_spec}
use Rattle.hd_value.specs.declared.value.Value.{Value}
use Rattle.hd_value.specs.declared.value.Value.TheVariants as value
use Rattle.hd_value.specs.Maps.{Map}
use Rattle.hd_value.specs.Schema as schema
use Rattle.hd_value.specs.Schema.{IsAuthored, is_authored, is_full_or_dark}
use Rattle.hd_schema.specs.Authored.{property_value}
use Rattle.hd_schema.specs.Colors.{light_of, byte_color, light_color}
use Rattle.hd_schema.specs.OpValues as own
use Rattle.hd_schema.specs.OpValues.{only, numbers, triples, triple, op_of_kind}
use Rattle.hd_schema.specs.Places.{is_at}
use Rattle.hd_schema.specs.Values.{words, paths, word, op, attribute_value, content_value, value_of}
use Rattle.hd_schema.proofs.Apart.{IsNamed, IsOp, row_cases, located_row, row_name}
use Rattle.hd_schema.proofs.OpNames.{order_conforms, op_conforms, kind_among}
use Rattle.hd_schema.proofs.Lookups.{Each, found_passes, found_in, found_among, mapped, chained}
use Rattle.hd_schema.proofs.Putting.{Holds, standing}

-- all that is made this way may are there
shown : {X : Type 0} (at : Locator) (f : X → Value) (o : Option X) (x : Value) → option_map f o ≡ Some x → ((y : X) → o ≡ Some y → is_authored at (f y) ≡ true) → is_authored at x ≡ true
shown at f o x made fits = mapped f o x made (λ y there is. ap (is_authored at) (sym is) ∙ fits y there)

words_pass : (test : List Name → Bool) (v : RawValue) (ws : List Name) → words v ≡ Some ws → are_words test v ≡ true → test ws ≡ true
words_pass test (raw.Words us) ws e form = let same : us ≡ ws = cc in ap test (sym same) ∙ form
words_pass test (raw.Numbers ns) ws e form = some_is_not ws (sym e)
words_pass test (raw.Triples ts) ws e form = some_is_not ws (sym e)
words_pass test (raw.Paths ps) ws e form = some_is_not ws (sym e)
words_pass test (raw.Matrix m) ws e form = some_is_not ws (sym e)

only_passes : (test : List ℕ → Bool) (ws : List Name) (w : List ℕ) → only ws ≡ Some w → list_all test ws ≡ true → test w ≡ true
only_passes test [] w e all = some_is_not w (sym e)
only_passes test (u ∷ []) w e all = let same : u ≡ w = cc in ap test (sym same) ∙ (and_true (test u) true all).0
only_passes test (u ∷ t ∷ more) w e all = some_is_not w (sym e)

-- the only word of a value that is to be one of some words
word_passes : (choice : List Name) (v : RawValue) (w : List ℕ) → word v ≡ Some w → are_words (is_single (is_any choice)) v ≡ true → is_any choice w ≡ true
word_passes choice v w e form =
    chained only (words v) w e (λ ws there one.
    let all = (and_true (length ws == 1) (list_all (is_any choice) ws) (words_pass (is_single (is_any choice)) v ws there form)).1 in
    only_passes (is_any choice) ws w one all)

lit : (n : ℤ) → (nat_eq (light_of n) 0 || nat_eq (light_of n) 255) ≡ true
lit (pos n) = elim (n == 0) as (λ b. (nat_eq (if b then 0 else 255) 0 || nat_eq (if b then 0 else 255) 255) ≡ true) [ true ↦ refl | false ↦ refl ]
lit (negsuc n) = refl

all_lit : (vs : List Vec3) → list_all is_full_or_dark (map light_color vs) ≡ true
all_lit [] = refl
all_lit (v ∷ vs) = rw (lit v.x, lit v.y, lit v.z) (all_lit vs)

-- the form of what a property's value is
abbrev pub content_form : Content → RawValue → Bool
content_form (Attribute kind) v = has_form kind v
content_form Targets v = are_paths (is_list is_below_root) v

-- a value of the row's form may are at the row's locator
RowConforms : UsedProperty → Type 0
RowConforms r = (v : RawValue) (x : Value) → content_form r.content v ≡ true → content_value r.content r.name v ≡ Some x → is_authored r.locator x ≡ true

rows_conform : Each RowConforms used_properties
unfolding RowConforms
rows_conform = (
  λ v x form made. shown points_at value.Vecs (triples v) x made (λ _ _. refl),
  (
    λ v x form made. shown counts_at value.Ints (numbers v) x made (λ _ _. refl),
    (
      λ v x form made. shown indices_at value.Ints (numbers v) x made (λ _ _. refl),
      (
        λ v x form made. shown display_color_at (λ vs. value.Colors (map light_color vs)) (triples v) x made (λ vs _. ap (λ b. (b || false) || false) (all_lit vs)),
        (
          λ v x form made. shown color8_at (λ vs. value.Colors (map byte_color vs)) (triples v) x made (λ _ _. refl),
          (
            λ v x form made. shown order_at value.Tokens (words v) x made (λ ws there. ap (λ b. (b || false) || false) (order_conforms ws (words_pass are_op_entries v ws there form))),
            (
              λ v x form made. shown visibility_at value.Token (word v) x made (λ w there. ap (λ b. (b || false) || false) (word_passes visibilities v w there form)),
              (
                λ v x form made. shown purpose_at value.Token (word v) x made (λ w there. ap (λ b. (b || false) || false) (word_passes purposes v w there form)),
                (
                  λ v x form made. shown binding_at value.Paths (paths v) x made (λ _ _. refl),
                  (
                    λ v x form made. shown positions_at value.Vecs (triples v) x made (λ _ _. refl),
                    (
                      λ v x form made. shown proto_indices_at value.Ints (numbers v) x made (λ _ _. refl),
                      (
                        λ v x form made. shown prototypes_at value.Paths (paths v) x made (λ _ _. refl),
                        (λ v x form made. shown material_color_at (λ t. value.Color (byte_color t)) (triple v) x made (λ _ _. refl), tt),
                      ),
                    ),
                  ),
                ),
              ),
            ),
          ),
        ),
      ),
    ),
  ),
)

-- an op's value is an op, whatever its kind
abbrev GivesOp : OpKind → Type 0
GivesOp k = (name : List ℕ) (v : RawValue) → attribute_value k.kind name v ≡ op name v

roles_give_ops : Each GivesOp op_kinds
roles_give_ops = (λ _ _. refl, (λ _ _. refl, (λ _ _. refl, (λ _ _. refl, (λ _ _. refl, (λ _ _. refl, (λ _ _. refl, tt)))))))

op_row_conforms : (name : List ℕ) (r : UsedProperty) (v : RawValue) (x : Value) → IsOp name r → content_value r.content name v ≡ Some x → is_authored r.locator x ≡ true
op_row_conforms name r v x h made =
    kind_among GivesOp roles_give_ops name h.kind h.used (λ k gives _ same.
    let is_op : op name v ≡ Some x = sym (gives name v) ∙ ap (λ (kind : AttributeKind). attribute_value kind name v) same ∙ ap (λ (s : UsedProperty). content_value s.content name v) (sym h.is) ∙ made in
    ap (λ (s : UsedProperty). is_authored s.locator x) h.is
    ∙ shown (op_at (drop 8 name)) value.Op (op_of_kind (own.kind_of name) v) x is_op (λ o there.
    ap (λ b. (b && true) && bytes_eq (own.kind_of name) (schema.kind_of o)) ((bytes_decides (drop 8 name) (drop 8 name)).1 refl) ∙ op_conforms name v o there))

pub form_of : (c : Content) (name : List ℕ) (v : RawValue) → has_value (attribute_kind_in c) name v ≡ true → content_form c v ≡ true
form_of (Attribute kind) name v e = e
form_of Targets name v e = (and_true (is_target_name name) (are_paths (is_list is_below_root) v) e).1

property_conforms : (p : Property) (at : Locator) (x : Value) → is_property p ≡ true → locator_of p.name ≡ Some at → property_value p ≡ Some x → is_authored at x ≡ true
unfolding content_of attribute_kind_of value_of RowConforms
property_conforms p at x formed located made =
    located_row p.name at located (λ r row_r is_at.
    let content : option_map (λ (s : UsedProperty). s.content) (property_of p.name) ≡ Some r.content = ap (option_map (λ (s : UsedProperty). s.content)) row_r in
    let own_form : has_value (attribute_kind_in r.content) p.name p.value ≡ true = ap (λ o. has_value (option_and_then attribute_kind_in o) p.name p.value) (sym content) ∙ formed in
    let own_value : content_value r.content p.name p.value ≡ Some x = ap (option_and_then (λ (c : Content). content_value c p.name p.value)) (sym content) ∙ made in
    ap (λ w. is_authored w x) (sym is_at)
    ∙ row_cases p.name r row_r
    (λ h. row_conforms r h (form_of r.content p.name p.value own_form) own_value)
    (λ h. op_row_conforms p.name r p.value x h own_value))
  where
    row_conforms : (r : UsedProperty) → IsNamed p.name r → content_form r.content p.value ≡ true → content_value r.content p.name p.value ≡ Some x → is_authored r.locator x ≡ true
    row_conforms r h form own_value =
        let fits : RowConforms r = found_among RowConforms (λ (s : UsedProperty). bytes_eq p.name s.name) used_properties r rows_conform h.here in
        fits p.value x form (ap (λ (n : List ℕ). content_value r.content n p.value) (sym (row_name p.name r h)) ∙ own_value)

pub authored_conforms : (m : Map) (prim : PrimSpec) → is_prim_spec prim ≡ true → Holds m prim.properties → IsAuthored m
authored_conforms m prim formed holds at x e =
    chained property_value (find (λ (p : Property). is_at p.name at) prim.properties) x (sym (holds at) ∙ e) (λ p found made.
    let all = (and_true _ (list_all is_property prim.properties) (and_true _ (are_distinct (map (λ (q : Property). q.name) prim.properties)) formed).0).1 in
    property_conforms p at x
    (found_in is_property (λ (q : Property). is_at q.name at) prim.properties p all found)
    (standing p.name at (found_passes (λ (q : Property). is_at q.name at) prim.properties p found))
    made)
