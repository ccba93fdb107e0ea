-- What a property that is put into a map does to what the map answers.
use Rattle.std.proofs.Common.{◌≡◌, ◌≢◌, ℕ, true, false, not, ◌&&◌, ◌||◌, cond, List, [], ◌∷◌, ◌++◌, Option, Some, None, refl, ap, sym, subst, ◌∙◌}
use Rattle.std.specs.Cmp.Lexicographic.{slice_cmp, pointwise_decides, bytes_decides}
use Rattle.std.specs.FinMap.{get, empty, get-empty, retain_keys, get-insert, get-retain_keys}
use Rattle.std.specs.List.{find, list_any}
use Rattle.std.specs.Option.{option_map_or, option_and_then, option_or}
use Rattle.std.specs.Ordering.{nat_cmp}
use Rattle.std.specs.Str.{bytes_eq}
use Rattle.std.proofs.lemmas.Cmp.{eq_by_cmp_equiv}
use Rattle.std.proofs.lemmas.List.Folds.{find-append}
use Rattle.hd_layer.specs.declared.spec.Property.{Property}
use Rattle.hd_tokens.specs.Locators.{Locator}
use Rattle.hd_schema.specs.inner.FreePlaces.{IsFreeAt}
use Rattle.hd_tokens.specs.Properties.{locator_of}
use Rattle.hd_value.specs.declared.value.Value.{Value}
use Rattle.hd_value.specs.inner.Falls.{locators_total, locators_tie}
use Rattle.hd_path.specs.Paths.{is_prefix}
use Rattle.hd_path.proofs.Logic.{true_is_not}
use Rattle.hd_path.proofs.NamePrefixes.{nothing_left}
use Rattle.hd_value.specs.Maps.{Map, set_at, IsFree}
use Rattle.hd_value.proofs.Getting.{eqk, eqk_same}
use Rattle.hd_schema.specs.Places.{is_same_place, is_at}
use Rattle.hd_schema.specs.Authored.{property_value, authored_at, set_if_both, with_property}
use Rattle.hd_schema.proofs.Apart.{names_apart, some_token}
use Rattle.hd_schema.proofs.Lookups.{found_passes}

pub is_prefix_self : (at : Locator) → is_prefix at at ≡ true
is_prefix_self [] = refl
is_prefix_self (x ∷ at) = ap (λ b. b && is_prefix at at) ((bytes_decides x x).1 refl) ∙ is_prefix_self at

is_prefix_append : (front rest : Locator) → is_prefix front (front ++ rest) ≡ true
is_prefix_append [] rest = refl
is_prefix_append (x ∷ front) rest = ap (λ b. b && is_prefix front (front ++ rest)) ((bytes_decides x x).1 refl) ∙ is_prefix_append front rest

same_place : (a b : Locator) → is_same_place a b ≡ true → a ≡ b
same_place a b e = (pointwise_decides bytes_decides a b).0 e

same_itself : (a : Locator) → is_same_place a a ≡ true
same_itself a = (pointwise_decides bytes_decides a a).1 refl

-- a property that is at a locator has it
pub standing : (name : List ℕ) (at : Locator) → is_at name at ≡ true → locator_of name ≡ Some at
standing name at e =
    elim (locator_of name) as (λ o. option_map_or (λ own. is_same_place own at) o false ≡ true → o ≡ Some at) [
      | Some own ↦ λ same. ap Some (same_place own at same)
      | None ↦ λ no. true_is_not (sym no)
    ] e

pub located_stands : (name : List ℕ) (at : Locator) → locator_of name ≡ Some at → is_at name at ≡ true
located_stands name at e = ap (λ o. option_map_or (λ own. is_same_place own at) o false) e ∙ same_itself at

-- of the properties, none is at a place above or below that of another name
found_at : {P : Type 0} (ps : List Property) (q : Locator) (p : Property) → find (λ (x : Property). is_at x.name q) ps ≡ Some p → (locator_of p.name ≡ Some q → P) → P
found_at ps q p e k = k (standing p.name q (found_passes (λ (x : Property). is_at x.name q) ps p e))

-- what has a place above or below another one has its name
none_above : (name : List ℕ) (at q : Locator) (ps : List Property) → locator_of name ≡ Some at → is_prefix q at ≡ true → q ≢ at → find (λ (x : Property). is_at x.name q) ps ≡ None
none_above name at q ps located above other =
    elim (find (λ (x : Property). is_at x.name q) ps) as (λ o. find (λ (x : Property). is_at x.name q) ps ≡ o → o ≡ None) [
      | Some p ↦ λ e. found_at ps q p e (λ there.
          let same : p.name ≡ name = names_apart p.name name q at there located above in
          let is : Some q ≡ Some at = sym there ∙ ap locator_of same ∙ located in
          let equal : q ≡ at = cc in
          absurd (other equal))
      | None ↦ λ _. refl
    ] refl

none_below : (name : List ℕ) (at q : Locator) (ps : List Property) → locator_of name ≡ Some at → is_prefix at q ≡ true → q ≢ at → find (λ (x : Property). is_at x.name q) ps ≡ None
none_below name at q ps located below other =
    elim (find (λ (x : Property). is_at x.name q) ps) as (λ o. find (λ (x : Property). is_at x.name q) ps ≡ o → o ≡ None) [
      | Some p ↦ λ e. found_at ps q p e (λ there.
          let same : name ≡ p.name = names_apart name p.name at q located there below in
          let is : Some at ≡ Some q = sym located ∙ ap locator_of same ∙ there in
          let equal : q ≡ at = cc in
          absurd (other equal))
      | None ↦ λ _. refl
    ] refl

-- the name is nowhere among the properties
abbrev pub IsNew : List ℕ → List Property → Type 0
IsNew name ps = list_any (λ (x : Property). bytes_eq x.name name) ps ≡ false

none_here : (name : List ℕ) (at : Locator) (ps : List Property) → locator_of name ≡ Some at → IsNew name ps → find (λ (x : Property). is_at x.name at) ps ≡ None
none_here name at [] located new = refl
none_here name at (p ∷ ps) located new =
    elim (bytes_eq p.name name) as (λ b. bytes_eq p.name name ≡ b → (b || list_any (λ (x : Property). bytes_eq x.name name) ps) ≡ false → cond (is_at p.name at) (Some p) (find (λ (x : Property). is_at x.name at) ps) ≡ None) [
      | true ↦ λ _ no. true_is_not no
      | false ↦ λ apart later. elim (is_at p.name at) as (λ b. is_at p.name at ≡ b → cond b (Some p) (find (λ (x : Property). is_at x.name at) ps) ≡ None) [
        | true ↦ λ there.
            let same : p.name ≡ name = names_apart p.name name at at (standing p.name at there) located (is_prefix_self at) in
            true_is_not (sym ((bytes_decides p.name name).1 same) ∙ apart)
        | false ↦ λ _. none_here name at ps located later
      ] refl
    ] refl new

-- the map answers as the properties author
abbrev pub Holds : Map → List Property → Type 0
Holds m ps = (q : Locator) → get m q ≡ authored_at ps q

pub free_place : (m : Map) (ps : List Property) (name : List ℕ) (at : Locator) → Holds m ps → locator_of name ≡ Some at → IsFree m at
free_place m ps name at holds located front rest is some =
    holds front ∙ ap (option_and_then property_value) (none_above name at front ps located (subst (λ (w : Locator). is_prefix front w ≡ true) (sym is) (is_prefix_append front rest)) (λ same. some (nothing_left front rest (same ∙ is))))

-- what a map answers after a value was put at a locator
get_set : (m : Map) (at : Locator) (v : Value) (q : Locator) → get (set_at m at v) q ≡ cond (eqk q at) (Some v) (cond (not (is_prefix at q)) (get m q) None)
get_set m at v q =
    get-insert locators_total (retain_keys m (λ key. not (is_prefix at key))) at v q
    ∙ ap (cond (eqk q at) (Some v)) (get-retain_keys m (λ key. not (is_prefix at key)) q (λ x ties. ap (λ k. not (is_prefix at k)) (sym (locators_tie q x ties))))

-- properties and one more after them
authored_more : (ps : List Property) (p : Property) (q : Locator) → authored_at (ps ++ p ∷ []) q ≡ option_and_then property_value (option_or (find (λ (x : Property). is_at x.name q) ps) (cond (is_at p.name q) (Some p) None))
authored_more ps p q = ap (option_and_then property_value) (find-append (λ (x : Property). is_at x.name q) ps (p ∷ []))

or_none : {X : Type 0} (o : Option X) → option_or o None ≡ o
or_none None = refl
or_none (Some x) = refl

-- at another place than its own the property authors nothing
authored_other : (ps : List Property) (p : Property) (q : Locator) → is_at p.name q ≡ false → authored_at (ps ++ p ∷ []) q ≡ authored_at ps q
authored_other ps p q other =
    authored_more ps p q
    ∙ ap (λ b. option_and_then property_value (option_or (find (λ (x : Property). is_at x.name q) ps) (cond b (Some p) None))) other
    ∙ ap (option_and_then property_value) (or_none (find (λ (x : Property). is_at x.name q) ps))

authored_here : (ps : List Property) (p : Property) (at : Locator) → locator_of p.name ≡ Some at → IsNew p.name ps → authored_at (ps ++ p ∷ []) at ≡ property_value p
authored_here ps p at located new =
    authored_more ps p at
    ∙ ap (λ o. option_and_then property_value (option_or o (cond (is_at p.name at) (Some p) None))) (none_here p.name at ps located new)
    ∙ ap (λ b. option_and_then property_value (cond b (Some p) None)) (located_stands p.name at located)

not_at : (name : List ℕ) (at q : Locator) → locator_of name ≡ Some at → q ≢ at → is_at name q ≡ false
not_at name at q located other =
    elim (is_at name q) as (λ b. is_at name q ≡ b → b ≡ false) [
      | true ↦ λ there. absurd (other (equal (sym (standing name q there) ∙ located)))
      | false ↦ λ _. refl
    ] refl
  where
    equal : Some q ≡ Some at → q ≡ at
    equal e = cc

put_valued : (m : Map) (ps : List Property) (p : Property) (at : Locator) (v : Value) → Holds m ps → IsNew p.name ps → locator_of p.name ≡ Some at → property_value p ≡ Some v → Holds (set_at m at v) (ps ++ p ∷ [])
put_valued m ps p at v holds new located valued q =
    get_set m at v q
    ∙ elim (eqk q at) as (λ b. eqk q at ≡ b → cond b (Some v) (cond (not (is_prefix at q)) (get m q) None) ≡ authored_at (ps ++ p ∷ []) q) [
      | true ↦ λ here. sym valued ∙ sym (authored_here ps p at located new) ∙ ap (authored_at (ps ++ p ∷ [])) (sym (eqk_same q at here))
      | false ↦ λ elsewhere.
          let other : q ≢ at = λ same. true_is_not (sym ((eq_by_cmp_equiv locators_total).refl at) ∙ ap (λ w. eqk w at) (sym same) ∙ elsewhere) in
          elim (is_prefix at q) as (λ b. is_prefix at q ≡ b → cond (not b) (get m q) None ≡ authored_at (ps ++ p ∷ []) q) [
            | true ↦ λ below. sym (authored_other ps p q (not_at p.name at q located other) ∙ ap (option_and_then property_value) (none_below p.name at q ps located below other))
            | false ↦ λ _. holds q ∙ sym (authored_other ps p q (not_at p.name at q located other))
          ] refl
    ] refl

-- without a value it authors nothing
put_nothing : (m : Map) (ps : List Property) (p : Property) (at : Locator) → Holds m ps → IsNew p.name ps → locator_of p.name ≡ Some at → property_value p ≡ None → Holds m (ps ++ p ∷ [])
put_nothing m ps p at holds new located none q =
    elim (is_at p.name q) as (λ b. is_at p.name q ≡ b → get m q ≡ authored_at (ps ++ p ∷ []) q) [
      | true ↦ λ there.
          let is : Some q ≡ Some at = sym (standing p.name q there) ∙ located in
          let same : q ≡ at = cc in
          holds q
          ∙ ap (authored_at ps) same
          ∙ ap (option_and_then property_value) (none_here p.name at ps located new)
          ∙ sym (authored_here ps p at located new ∙ none)
          ∙ ap (authored_at (ps ++ p ∷ [])) (sym same)
      | false ↦ λ other. holds q ∙ sym (authored_other ps p q other)
    ] refl

pub put_holds : (m : Map) (ps : List Property) (p : Property) → Holds m ps → IsNew p.name ps → Holds (with_property m p) (ps ++ p ∷ [])
put_holds m ps p holds new =
    elim (locator_of p.name) as (λ o. locator_of p.name ≡ o → Holds (set_if_both m o (property_value p)) (ps ++ p ∷ [])) [
      | Some at ↦ λ located. elim (property_value p) as (λ v. property_value p ≡ v → Holds (set_if_both m (Some at) v) (ps ++ p ∷ [])) [
        | Some v ↦ λ valued. put_valued m ps p at v holds new located valued
        | None ↦ λ none. put_nothing m ps p at holds new located none
      ] refl
      | None ↦ λ nowhere. λ q. holds q ∙ sym (authored_other ps p q (ap (λ o. option_map_or (λ own. is_same_place own q) o false) nowhere))
    ] refl

-- the empty map holds no property
pub none_held : Holds empty []
none_held q = get-empty (slice_cmp (slice_cmp nat_cmp)) q

-- a property's place is free
pub free_at : (m : Map) (ps : List Property) (name : List ℕ) → Holds m ps → IsFreeAt m (locator_of name)
free_at m ps name holds =
    elim (locator_of name) as (λ o. locator_of name ≡ o → IsFreeAt m o) [
      | Some at ↦ λ located. (some_token name at located, free_place m ps name at holds located)
      | None ↦ λ _. tt
    ] refl
