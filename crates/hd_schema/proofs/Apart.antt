-- The locators of two used names don't intersect.
use Rattle.std.proofs.Common.{◌≡◌, ◌≢◌, ℕ, Bool, true, false, not, ◌||◌, cond, List, [], ◌∷◌, ◌++◌, Some, drop, codes, refl, ap, sym, ◌∙◌}
use Rattle.std.specs.Cmp.Lexicographic.{bytes_decides}
use Rattle.std.specs.List.{list_all}
use Rattle.std.specs.Str.{bytes_eq}
use Rattle.std.proofs.lemmas.Bool.Decides.{Decides-eqb}
use Rattle.std.proofs.lemmas.Slice.Eq.{starts_is}
use Rattle.hd_tokens.specs.declared.properties.AttributeKind.{AttributeKind}
use Rattle.hd_tokens.specs.declared.properties.Content.TheVariants.{Attribute}
use Rattle.hd_tokens.specs.Locators.{Locator, op_at}
use Rattle.hd_tokens.specs.Properties.{UsedProperty, property, used_properties, begins_op, op_kind_of, op_property, named_property, property_of, locator_of}
use Rattle.hd_path.specs.Paths.{is_prefix}
use Rattle.hd_path.specs.Names.{is_same}
use Rattle.hd_path.proofs.Logic.{true_is_not}
use Rattle.hd_path.proofs.NamePrefixes.{and_true}
use Rattle.hd_schema.proofs.Lookups.{found_passes, found_in, mapped}

-- the row of a name is in the table, or is that of an op
pub record IsNamed (name : List ℕ) (r : UsedProperty) : Type 0 where
  pub plain : begins_op name ≡ false
  pub here : named_property name ≡ Some r

pub record IsOp (name : List ℕ) (r : UsedProperty) : Type 0 where
  pub begins : begins_op name ≡ true
  pub kind : AttributeKind
  pub used : op_kind_of name ≡ Some kind
  pub is : r ≡ property name (Attribute kind) (op_at (drop 8 name))

pub row_cases : {P : Type 0} (name : List ℕ) (r : UsedProperty) → property_of name ≡ Some r → (IsNamed name r → P) → (IsOp name r → P) → P
unfolding property_of
row_cases {P} name r e named op =
    elim (begins_op name) as (λ b. begins_op name ≡ b → cond b (op_property name) (named_property name) ≡ Some r → P) [
      | true ↦ λ begins is. mapped (λ (kind : AttributeKind). property name (Attribute kind) (op_at (drop 8 name))) (op_kind_of name) r is (λ kind used same. op (record { begins = begins; kind = kind; used = used; is = sym same }))
      | false ↦ λ plain is. named (record { plain = plain; here = is })
    ] refl e

pub located_row : {P : Type 0} (name : List ℕ) (at : Locator) → locator_of name ≡ Some at → ((r : UsedProperty) → property_of name ≡ Some r → r.locator ≡ at → P) → P
unfolding locator_of
located_row name at e k = mapped (λ (r : UsedProperty). r.locator) (property_of name) at e k

-- the name that begins as that of an op goes on with the rest
pub op_name : (name : List ℕ) → begins_op name ≡ true → name ≡ codes "xformOp:" ++ drop 8 name
op_name name begins = (starts_is Decides-eqb name (codes "xformOp:") (begins_op name) refl).0 begins

-- the row of the table has the name
pub row_name : (name : List ℕ) (r : UsedProperty) → IsNamed name r → name ≡ r.name
row_name name r h = (bytes_decides name r.name).0 (found_passes (λ s. bytes_eq name s.name) used_properties r h.here)

-- a row's locator begins with that of another row only where they have one name
abbrev apart : UsedProperty → UsedProperty → Bool
apart r s = not (is_prefix r.locator s.locator) || bytes_eq r.name s.name

table_apart : list_all (λ r. list_all (apart r) used_properties) used_properties ≡ true
table_apart = refl

-- no row's locator is above that of an op, or below it
above_none : (text : List ℕ) → list_all (λ (r : UsedProperty). not (is_prefix r.locator (op_at text))) used_properties ≡ true
above_none text = refl

below_none : (text : List ℕ) → list_all (λ (r : UsedProperty). not (is_prefix (op_at text) r.locator)) used_properties ≡ true
below_none text = refl

not_true : {P : Type 0} (b : Bool) → not b ≡ true → b ≡ true → P
not_true true e is = true_is_not (sym e)
not_true false e is = true_is_not (sym is)

or_left : (a b : Bool) → (not a || b) ≡ true → a ≡ true → b ≡ true
or_left true b e is = e
or_left false b e is = true_is_not (sym is)

rows_apart : (n m : List ℕ) (r s : UsedProperty) → IsNamed n r → IsNamed m s → is_prefix r.locator s.locator ≡ true → n ≡ m
rows_apart n m r s hr hs p =
    let with_r : list_all (apart r) used_properties ≡ true = found_in (λ (x : UsedProperty). list_all (apart x) used_properties) (λ (x : UsedProperty). bytes_eq n x.name) used_properties r table_apart hr.here in
    let both : apart r s ≡ true = found_in (apart r) (λ (x : UsedProperty). bytes_eq m x.name) used_properties s with_r hs.here in
    let same : r.name ≡ s.name = (bytes_decides r.name s.name).0 (or_left (is_prefix r.locator s.locator) (bytes_eq r.name s.name) both p) in
    row_name n r hr ∙ same ∙ sym (row_name m s hs)

ops_apart : (n m : List ℕ) → begins_op n ≡ true → begins_op m ≡ true → is_prefix (op_at (drop 8 n)) (op_at (drop 8 m)) ≡ true → n ≡ m
ops_apart n m bn bm p =
    let same : drop 8 n ≡ drop 8 m = (bytes_decides (drop 8 n) (drop 8 m)).0 (and_true (is_same (drop 8 n) (drop 8 m)) true p).0 in
    op_name n bn ∙ ap (λ text. codes "xformOp:" ++ text) same ∙ sym (op_name m bm)

-- where a used locator begins with another one, the two are of one name
pub names_apart : (n m : List ℕ) (a b : Locator) → locator_of n ≡ Some a → locator_of m ≡ Some b → is_prefix a b ≡ true → n ≡ m
names_apart n m a b en em p =
    located_row n a en (λ r row_n is_a. located_row m b em (λ s row_m is_b.
    let q : is_prefix r.locator s.locator ≡ true = ap (λ w. is_prefix w s.locator) is_a ∙ ap (is_prefix a) is_b ∙ p in
    row_cases n r row_n
    (λ hr. row_cases m s row_m
    (λ hs. rows_apart n m r s hr hs q)
    (λ os. not_true (is_prefix r.locator (op_at (drop 8 m))) (found_in (λ (x : UsedProperty). not (is_prefix x.locator (op_at (drop 8 m)))) (λ (x : UsedProperty). bytes_eq n x.name) used_properties r (above_none (drop 8 m)) hr.here) (ap (λ (x : UsedProperty). is_prefix r.locator x.locator) (sym os.is) ∙ q)))
    (λ or. row_cases m s row_m
    (λ hs. not_true (is_prefix (op_at (drop 8 n)) s.locator) (found_in (λ (x : UsedProperty). not (is_prefix (op_at (drop 8 n)) x.locator)) (λ (x : UsedProperty). bytes_eq m x.name) used_properties s (below_none (drop 8 n)) hs.here) (ap (λ (x : UsedProperty). is_prefix x.locator s.locator) (sym or.is) ∙ q))
    (λ os. ops_apart n m or.begins os.begins (ap (λ (x : UsedProperty). is_prefix (op_at (drop 8 n)) x.locator) (sym os.is) ∙ ap (λ (x : UsedProperty). is_prefix x.locator s.locator) (sym or.is) ∙ q)))))

-- a locator has a token
has_token : Locator → Bool
has_token [] = false
has_token (x ∷ at) = true

all_tokens : list_all (λ (r : UsedProperty). has_token r.locator) used_properties ≡ true
unfolding has_token
all_tokens = refl

pub some_token : (name : List ℕ) (at : Locator) → locator_of name ≡ Some at → at ≢ []
unfolding has_token
some_token name at located none =
    located_row name at located (λ r row_r is.
    row_cases name r row_r
    (λ h. true_is_not (sym (found_in (λ (x : UsedProperty). has_token x.locator) (λ (x : UsedProperty). bytes_eq name x.name) used_properties r all_tokens h.here) ∙ ap has_token (is ∙ none)))
    (λ o. true_is_not (ap (λ (x : UsedProperty). has_token x.locator) (sym o.is) ∙ ap has_token (is ∙ none))))
