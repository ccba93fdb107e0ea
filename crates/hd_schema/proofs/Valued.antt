-- Each well formed property has a value, at a locator.
use Rattle.std.proofs.Common.{◌≡◌, ℕ, ℤ, Bool, true, ◌==◌, List, [], ◌∷◌, map, length, codes, get_or, All, Option, Some, None, IsSome, IsSomeAnd, refl, ap, sym, subst, ◌∙◌, arith}
use Rattle.std.specs.FinMap.{get}
use Rattle.std.specs.List.{list_all}
use Rattle.std.specs.Option.{option_map, option_and_then, is_some}
use Rattle.std.specs.Str.{bytes_eq}
use Rattle.std.proofs.lemmas.Bool.Decides.{Decides-eqb}
use Rattle.std.proofs.lemmas.List.{get_or_default}
use Rattle.std.proofs.lemmas.List.Sums.{AllPass-from_list_all}
use Rattle.hd_num.specs.declared.axis.Axis.TheVariants.{X, Y, Z}
use Rattle.hd_num.specs.declared.op.Op.TheVariants.{Translate, Scale, Transform}
use Rattle.hd_num.specs.declared.vector.Vec3.{Vec3}
use Rattle.hd_num.specs.Matrices.{Rows}
use Rattle.hd_path.specs.Names.{Name}
use Rattle.hd_tokens.specs.declared.properties.AttributeKind.{AttributeKind}
use Rattle.hd_tokens.specs.declared.properties.Content.{Content}
use Rattle.hd_layer.specs.declared.spec.PrimSpec.{PrimSpec}
use Rattle.hd_layer.specs.declared.spec.Property.{Property}
use Rattle.hd_layer.specs.declared.spec.RawValue.{RawValue}
use Rattle.hd_layer.specs.declared.spec.RawValue.TheVariants.{Numbers, Triples, Words, Paths, Matrix}
use Rattle.hd_path.specs.Paths.{Path}
use Rattle.hd_path.proofs.Logic.{true_is_not}
use Rattle.hd_path.proofs.NamePrefixes.{and_true}
use Rattle.hd_tokens.specs.Properties.{UsedProperty, OpKind, used_properties, op_kinds, property_of, content_of, attribute_kind_of, attribute_kind_in, is_targets, is_target_name, locator_of}
use Rattle.hd_layer.specs.WellFormed.{has_form, has_value, are_triples, are_numbers, are_words, are_paths, are_rows, is_single, is_list, is_below_root, are_distinct, is_property, is_prim_spec}
use Rattle.hd_value.specs.declared.value.Value.{Value}
use Rattle.hd_value.specs.declared.value.Value.TheVariants as value
use Rattle.hd_value.specs.Maps.{Map}
use Rattle.hd_schema.specs.Authored.{property_value, HasValueOf}
use Rattle.hd_schema.specs.OpValues.{only, numbers, triples, number, triple, matrix, turn, turns, kind_of, op_of_kind}
use Rattle.hd_schema.specs.Values.{words, word, paths, op, attribute_value, content_value, value_of}
use Rattle.hd_schema.proofs.Apart.{IsOp, row_cases, row_name}
use Rattle.hd_schema.proofs.Lookups.{Each, found_among}
use Rattle.hd_schema.proofs.OpNames.{kind_among}
use Rattle.hd_schema.proofs.Putting.{Holds}
use Rattle.hd_schema.proofs.Conforming.{content_form, form_of}
use Rattle.hd_schema.proofs.Sorting.{found_own, prim_once}

made : {A B : Type 0} (f : A → B) (o : Option A) → IsSome o → IsSome (option_map f o)
made f None e = true_is_not (sym e)
made f (Some x) e = refl

-- a value that has a form is of the variant of that form
triples_there : (test : List Vec3 → Bool) (v : RawValue) → are_triples test v ≡ true → IsSome (triples v)
triples_there test (Triples vs) e = refl
triples_there test (Numbers ns) e = true_is_not (sym e)
triples_there test (Words ws) e = true_is_not (sym e)
triples_there test (Paths ps) e = true_is_not (sym e)
triples_there test (Matrix m) e = true_is_not (sym e)

numbers_there : (test : List ℤ → Bool) (v : RawValue) → are_numbers test v ≡ true → IsSome (numbers v)
numbers_there test (Numbers ns) e = refl
numbers_there test (Triples vs) e = true_is_not (sym e)
numbers_there test (Words ws) e = true_is_not (sym e)
numbers_there test (Paths ps) e = true_is_not (sym e)
numbers_there test (Matrix m) e = true_is_not (sym e)

words_there : (test : List Name → Bool) (v : RawValue) → are_words test v ≡ true → IsSome (words v)
words_there test (Words ws) e = refl
words_there test (Numbers ns) e = true_is_not (sym e)
words_there test (Triples vs) e = true_is_not (sym e)
words_there test (Paths ps) e = true_is_not (sym e)
words_there test (Matrix m) e = true_is_not (sym e)

paths_there : (test : List Path → Bool) (v : RawValue) → are_paths test v ≡ true → IsSome (paths v)
paths_there test (Paths ps) e = refl
paths_there test (Numbers ns) e = true_is_not (sym e)
paths_there test (Triples vs) e = true_is_not (sym e)
paths_there test (Words ws) e = true_is_not (sym e)
paths_there test (Matrix m) e = true_is_not (sym e)

matrix_there : (test : Rows → Bool) (v : RawValue) → are_rows test v ≡ true → IsSome (matrix v)
matrix_there test (Matrix m) e = refl
matrix_there test (Numbers ns) e = true_is_not (sym e)
matrix_there test (Triples vs) e = true_is_not (sym e)
matrix_there test (Words ws) e = true_is_not (sym e)
matrix_there test (Paths ps) e = true_is_not (sym e)

only_there : {A : Type 0} (test : A → Bool) (xs : List A) → is_single test xs ≡ true → IsSome (only xs)
only_there test [] e = true_is_not (sym e)
only_there test (x ∷ []) e = refl
only_there test (x ∷ y ∷ more) e =
    let one : length (x ∷ y ∷ more) ≡ 1 = (Decides-eqb (length (x ∷ y ∷ more)) 1).0 (and_true (length (x ∷ y ∷ more) == 1) (list_all test (x ∷ y ∷ more)) e).0 in
    absurd (omega (arith, one))

triple_there : (test : Vec3 → Bool) (v : RawValue) → are_triples (is_single test) v ≡ true → IsSome (triple v)
triple_there test (Triples vs) e = only_there test vs e
triple_there test (Numbers ns) e = true_is_not (sym e)
triple_there test (Words ws) e = true_is_not (sym e)
triple_there test (Paths ps) e = true_is_not (sym e)
triple_there test (Matrix m) e = true_is_not (sym e)

number_there : (test : ℤ → Bool) (v : RawValue) → are_numbers (is_single test) v ≡ true → IsSome (number v)
number_there test (Numbers ns) e = only_there test ns e
number_there test (Triples vs) e = true_is_not (sym e)
number_there test (Words ws) e = true_is_not (sym e)
number_there test (Paths ps) e = true_is_not (sym e)
number_there test (Matrix m) e = true_is_not (sym e)

word_there : (test : List ℕ → Bool) (v : RawValue) → are_words (is_single test) v ≡ true → IsSome (word v)
word_there test (Words ws) e = only_there test ws e
word_there test (Numbers ns) e = true_is_not (sym e)
word_there test (Triples vs) e = true_is_not (sym e)
word_there test (Paths ps) e = true_is_not (sym e)
word_there test (Matrix m) e = true_is_not (sym e)

-- a value of the row's form becomes a value
IsValued : UsedProperty → Type 0
IsValued r = (v : RawValue) → content_form r.content v ≡ true → IsSome (content_value r.content r.name v)

rows_valued : Each IsValued used_properties
unfolding IsValued
rows_valued = (
  λ v e. made _ (triples v) (triples_there _ v e),
  (
    λ v e. made _ (numbers v) (numbers_there _ v e),
    (
      λ v e. made _ (numbers v) (numbers_there _ v e),
      (
        λ v e. made _ (triples v) (triples_there _ v e),
        (
          λ v e. made _ (triples v) (triples_there _ v e),
          (
            λ v e. made _ (words v) (words_there _ v e),
            (
              λ v e. made _ (word v) (word_there _ v e),
              (
                λ v e. made _ (word v) (word_there _ v e),
                (
                  λ v e. made _ (paths v) (paths_there _ v e),
                  (
                    λ v e. made _ (triples v) (triples_there _ v e),
                    (
                      λ v e. made _ (numbers v) (numbers_there _ v e),
                      (
                        λ v e. made _ (paths v) (paths_there _ v e),
                        (λ v e. made _ (triple v) (triple_there _ v e), tt),
                      ),
                    ),
                  ),
                ),
              ),
            ),
          ),
        ),
      ),
    ),
  ),
)

-- a value of the form of a kind of ops becomes an op, whatever the name of this kind
IsOpValued : OpKind → Type 0
IsOpValued k = (name : List ℕ) (v : RawValue) → kind_of name ≡ k.name → has_form k.kind v ≡ true → IsSome (attribute_value k.kind name v)

-- where the kind gives an op, so does the name
op_made : (name kind : List ℕ) (v : RawValue) → kind_of name ≡ kind → IsSome (op_of_kind kind v) → IsSome (op name v)
op_made name kind v is e = made value.Op (op_of_kind (kind_of name) v) (ap (λ (k : List ℕ). is_some (op_of_kind k v)) is ∙ e)

kinds_valued : Each IsOpValued op_kinds
unfolding IsOpValued
kinds_valued = (
  λ name v is e. op_made name (codes "translate") v is (made Translate (triple v) (triple_there _ v e)),
  (
    λ name v is e. op_made name (codes "scale") v is (made Scale (triple v) (triple_there _ v e)),
    (
      λ name v is e. op_made name (codes "rotateX") v is (made (turn X) (number v) (number_there _ v e)),
      (
        λ name v is e. op_made name (codes "rotateY") v is (made (turn Y) (number v) (number_there _ v e)),
        (
          λ name v is e. op_made name (codes "rotateZ") v is (made (turn Z) (number v) (number_there _ v e)),
          (
            λ name v is e. op_made name (codes "rotateXYZ") v is (made turns (triple v) (triple_there _ v e)),
            (λ name v is e. op_made name (codes "transform") v is (made Transform (matrix v) (matrix_there _ v e)), tt),
          ),
        ),
      ),
    ),
  ),
)

op_row_valued : (name : List ℕ) (r : UsedProperty) (v : RawValue) → IsOp name r → content_form r.content v ≡ true → IsSome (content_value r.content name v)
unfolding IsOpValued
op_row_valued name r v h form =
    kind_among IsOpValued kinds_valued name h.kind h.used (λ k valued kind same.
    let own : has_form k.kind v ≡ true = ap (λ (a : AttributeKind). has_form a v) same ∙ ap (λ (s : UsedProperty). content_form s.content v) (sym h.is) ∙ form in
    ap (λ (s : UsedProperty). is_some (content_value s.content name v)) h.is
    ∙ ap (λ (a : AttributeKind). is_some (attribute_value a name v)) (sym same)
    ∙ valued name v kind own)

row_valued : (name : List ℕ) (r : UsedProperty) (v : RawValue) → property_of name ≡ Some r → content_form r.content v ≡ true → IsSome (content_value r.content name v)
unfolding IsValued
row_valued name r v row_r form =
    row_cases name r row_r
    (λ h.
    let valued : IsValued r = found_among IsValued (λ (s : UsedProperty). bytes_eq name s.name) used_properties r rows_valued h.here in
    ap (λ (n : List ℕ). is_some (content_value r.content n v)) (row_name name r h) ∙ valued v form)
    (λ h. op_row_valued name r v h form)

-- a property that is well formed has a row
used_row : {P : Type 0} (p : Property) → is_property p ≡ true → ((r : UsedProperty) → property_of p.name ≡ Some r → P) → P
unfolding content_of attribute_kind_of
used_row {P} p formed k =
    elim (property_of p.name) as (λ o. property_of p.name ≡ o → P) [
      | Some r ↦ λ e. k r e
      | None ↦ λ none.
          let no_role : has_value None p.name p.value ≡ true = ap (λ o. has_value (option_and_then attribute_kind_in (option_map (λ (s : UsedProperty). s.content) o)) p.name p.value) (sym none) ∙ formed in
          let target = (and_true (is_target_name p.name) (are_paths (is_list is_below_root) p.value) no_role).0 in
          true_is_not (sym (ap (λ o. is_targets (option_map (λ (s : UsedProperty). s.content) o)) (sym none) ∙ target))
    ] refl

property_valued : (p : Property) (r : UsedProperty) → is_property p ≡ true → property_of p.name ≡ Some r → IsSome (property_value p)
unfolding content_of attribute_kind_of value_of
property_valued p r formed row_r =
    let content : option_map (λ (s : UsedProperty). s.content) (property_of p.name) ≡ Some r.content = ap (option_map (λ (s : UsedProperty). s.content)) row_r in
    let own : has_value (attribute_kind_in r.content) p.name p.value ≡ true = ap (λ o. has_value (option_and_then attribute_kind_in o) p.name p.value) (sym content) ∙ formed in
    ap (λ o. is_some (option_and_then (λ (c : Content). content_value c p.name p.value) o)) content
    ∙ row_valued p.name r p.value row_r (form_of r.content p.name p.value own)

located : (name : List ℕ) (r : UsedProperty) → property_of name ≡ Some r → locator_of name ≡ Some r.locator
unfolding locator_of
located name r e = ap (option_map (λ (s : UsedProperty). s.locator)) e

some_and : (o stands : Option Value) → IsSome o → stands ≡ o → IsSomeAnd o (λ v. stands ≡ Some v)
some_and None stands e same = true_is_not (sym e)
some_and (Some v) stands e same = same

pub authored_each : (m : Map) (prim : PrimSpec) → is_prim_spec prim ≡ true → Holds m prim.properties → All (HasValueOf m) prim.properties
authored_each m prim formed holds k d below =
    let ps = prim.properties in
    let p = get_or ps k d in
    let all = (and_true _ (list_all is_property ps) (and_true _ (are_distinct (map (λ (q : Property). q.name) ps)) formed).0).1 in
    let good : is_property p ≡ true = AllPass-from_list_all is_property ps all k d below in
    used_row p good (λ r row_r.
    let found = found_own ps r.locator p (prim_once prim formed) (k, below, get_or_default ps k p d below) (located p.name r row_r) in
    subst (λ o. IsSomeAnd o (λ at. IsSomeAnd (property_value p) (λ v. get m at ≡ Some v))) (sym (located p.name r row_r))
    (some_and (property_value p) (get m r.locator) (property_valued p r good row_r) (holds r.locator ∙ ap (option_and_then property_value) found)))
