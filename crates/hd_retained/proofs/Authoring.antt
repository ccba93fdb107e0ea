-- The values that properties author don't depend on how the properties are listed.
use Rattle.std.proofs.Common.{◌≡◌, ℕ, Bool, true, false, not, cond, T, ◌&&◌, ◌||◌, List, [], ◌∷◌, ◌++◌, map, Some, None, refl, sym, ◌∙◌, ap, subst, append_assoc}
use Rattle.std.proofs.lemmas.List.{append-nil}
use Rattle.std.specs.Cmp.Lexicographic.{slice_cmp, bytes_decides, nat_list_cmp_total, texts_ties}
use Rattle.std.specs.List.{find as first, fold, list_any}
use Rattle.std.specs.Option.{option_map, option_and_then}
use Rattle.std.specs.Ordering.{nat_cmp, eq_by_cmp, is_lt, is_eq}
use Rattle.std.specs.declared.cmp.Ordering.{Ordering}
use Rattle.std.specs.Str.{bytes_eq}
use Rattle.std.specs.FinMap.{find, entries, entries_sorted, empty, get-entries, get-from_entries, same_map}
use Rattle.std.specs.FinMap.Entries.{is_sorted, below_all}
use Rattle.hd_layer.specs.declared.spec.Property.{Property}
use Rattle.hd_layer.specs.declared.spec.RawValue.{RawValue}
use Rattle.hd_tokens.specs.Properties.{locator_of}
use Rattle.hd_layer.specs.WellFormed.{are_distinct}
use Rattle.hd_value.specs.Maps.{Map}
use Rattle.hd_value.specs.inner.Falls.{locators_total, locators_tie}
use Rattle.hd_schema.specs.Places.{is_at}
use Rattle.hd_schema.specs.Authored.{property_value, authored_at, with_property}
use Rattle.hd_schema.proofs.Apart.{names_apart}
use Rattle.hd_schema.proofs.Lookups.{found_passes}
use Rattle.hd_schema.proofs.Putting.{Holds, standing, located_stands, is_prefix_self, put_holds, none_held}
use Rattle.hd_schema.proofs.Sorting.{IsOnce, has_name, distinct_once, once_new}
use Rattle.hd_retained.specs.Layers.{Properties, named_value, properties_of, property_of, property_list, container_of}
use Rattle.hd_scene.proofs.Ascending.{is_less}
use Rattle.hd_path.specs.Paths.{Path}
use Rattle.hd_path.specs.Names.{Name}
use Rattle.hd_path.proofs.Logic.{some_is_not}

abbrev name_cmp : List ℕ → List ℕ → Ordering
name_cmp = slice_cmp nat_cmp

-- at a place where one property is, those that are there have its name
stand_by_name : (q : Path) (p x : Property) → is_at p.name q ≡ true → is_at x.name q ≡ has_name p.name x
stand_by_name q p x there =
    elim (bytes_eq p.name x.name) as (λ b. bytes_eq p.name x.name ≡ b → is_at x.name q ≡ b) [
      | true ↦ λ same. located_stands x.name q (ap locator_of (sym ((bytes_decides p.name x.name).0 same)) ∙ standing p.name q there)
      | false ↦ λ other. elim (is_at x.name q) as (λ b. is_at x.name q ≡ b → b ≡ false) [
        | true ↦ λ also. sym ((bytes_decides p.name x.name).1 (names_apart p.name x.name q q (standing p.name q there) (standing x.name q also) (is_prefix_self q))) ∙ other
        | false ↦ λ _. refl
      ] refl
    ] refl

first_agree : {X : Type 0} (f g : X → Bool) → ((x : X) → f x ≡ g x) → (xs : List X) → first f xs ≡ first g xs
first_agree f g h [] = refl
first_agree f g h (x ∷ xs) = ap (λ b. cond b (Some x) (first f xs)) (h x) ∙ ap (cond (g x) (Some x)) (first_agree f g h xs)

-- lists in which each name finds the same property
abbrev pub SameNames : List Property → List Property → Type 0
SameNames ps qs = (name : Name) → first (has_name name) ps ≡ first (has_name name) qs

-- what is found at a place in one of them is found in the other
found_same : (ps qs : List Property) (q : Path) (p : Property) → SameNames ps qs → first (λ (x : Property). is_at x.name q) ps ≡ Some p → first (λ (x : Property). is_at x.name q) qs ≡ Some p
found_same ps qs q p same found =
    let agree = stand_by_name q p in
    let there : is_at p.name q ≡ true = found_passes (λ (x : Property). is_at x.name q) ps p found in
    first_agree (λ (x : Property). is_at x.name q) (has_name p.name) (λ x. agree x there) qs
    ∙ sym (same p.name)
    ∙ sym (first_agree (λ (x : Property). is_at x.name q) (has_name p.name) (λ x. agree x there) ps)
    ∙ found

found_at_place : (ps qs : List Property) (q : Path) → SameNames ps qs → first (λ (x : Property). is_at x.name q) ps ≡ first (λ (x : Property). is_at x.name q) qs
found_at_place ps qs q same =
    elim (first (λ (x : Property). is_at x.name q) ps) as (λ o. first (λ (x : Property). is_at x.name q) ps ≡ o → o ≡ first (λ (x : Property). is_at x.name q) qs) [
      | Some p ↦ λ found. sym (found_same ps qs q p same found)
      | None ↦ λ none. elim (first (λ (x : Property). is_at x.name q) qs) as (λ o. first (λ (x : Property). is_at x.name q) qs ≡ o → None ≡ o) [
        | Some p ↦ λ found. some_is_not p (sym (found_same qs ps q p (λ name. sym (same name)) found) ∙ none)
        | None ↦ λ _. refl
      ] refl
    ] refl

pub authored_same : (ps qs : List Property) (q : Path) → SameNames ps qs → authored_at ps q ≡ authored_at qs q
authored_same ps qs q same = ap (option_and_then property_value) (found_at_place ps qs q same)

abbrev named : List ℕ → RawValue → Property
named name value = record { name = name; value = value }

-- a property is found by its name where the map has a value
found_by_name : (es : List (List ℕ × RawValue)) (name : Name) → first (has_name name) (map property_of es) ≡ option_map (named name) (find name_cmp name es)
found_by_name [] name = refl
found_by_name (e ∷ es) name =
    elim (bytes_eq name e.0) as (λ b. bytes_eq name e.0 ≡ b → cond b (Some (property_of e)) (first (has_name name) (map property_of es)) ≡ option_map (named name) (cond (eq_by_cmp name_cmp name e.0) (Some e.1) (find name_cmp name es))) [
      | true ↦ λ same.
          ap (λ (n : List ℕ). Some (named n e.1)) (sym ((bytes_decides name e.0).0 same))
          ∙ ap (λ b. option_map (named name) (cond b (Some e.1) (find name_cmp name es))) (sym same ∙ texts_ties name e.0)
      | false ↦ λ other.
          found_by_name es name ∙ ap (λ b. option_map (named name) (cond b (Some e.1) (find name_cmp name es))) (sym other ∙ texts_ties name e.0)
    ] refl

pub named_back : (ps : List Property) → map property_of (map named_value ps) ≡ ps
named_back [] = refl
named_back (p ∷ ps) = ap (λ (qs : List Property). p ∷ qs) (named_back ps)

-- the properties by their names are the same ones
pub listed_same : (ps : List Property) → SameNames ps (property_list (properties_of ps))
listed_same ps name =
    ap (first (has_name name)) (sym (named_back ps))
    ∙ found_by_name (map named_value ps) name
    ∙ ap (option_map (named name)) (sym (get-from_entries nat_list_cmp_total (map named_value ps) name) ∙ get-entries (properties_of ps) name)
    ∙ sym (found_by_name (entries (properties_of ps)) name)

both_true : (a b : Bool) → T (a && b) → T a × T b
both_true true b h = (tt, h)
both_true false b h = absurd h

-- a name below others is none of them
none_below : (name : Name) (es : List (List ℕ × RawValue)) → T (below_all name_cmp name es) → list_any (bytes_eq name) (map (λ (p : Property). p.name) (map property_of es)) ≡ false
none_below name [] h = refl
none_below name (e ∷ es) h =
    let both = both_true (is_lt (name_cmp name e.0)) (below_all name_cmp name es) h in
    ap (λ b. b || list_any (bytes_eq name) (map (λ (p : Property). p.name) (map property_of es))) (texts_ties name e.0 ∙ ap is_eq (is_less (name_cmp name e.0) both.0))
    ∙ none_below name es both.1

sorted_distinct : (es : List (List ℕ × RawValue)) → T (is_sorted name_cmp es) → are_distinct (map (λ (p : Property). p.name) (map property_of es)) ≡ true
sorted_distinct [] h = refl
sorted_distinct (e ∷ es) h =
    let both = both_true (below_all name_cmp e.0 es) (is_sorted name_cmp es) h in
    ap (λ b. not b && are_distinct (map (λ (p : Property). p.name) (map property_of es))) (none_below e.0 es both.0) ∙ sorted_distinct es both.1

-- by their names each is once
pub listed_once : (properties : Properties) → IsOnce (property_list properties)
listed_once properties = distinct_once (property_list properties) (sorted_distinct (entries properties) (entries_sorted properties))

-- put one by one, the properties hold
fold_holds : (m : Map) (front rest : List Property) → Holds m front → IsOnce (front ++ rest) → Holds (fold with_property m rest) (front ++ rest)
fold_holds m front [] holds once = subst (Holds m) (sym (append-nil front)) holds
fold_holds m front (p ∷ rest) holds once =
    subst (Holds (fold with_property (with_property m p) rest)) (append_assoc front (p ∷ []) rest)
    (fold_holds (with_property m p) (front ++ p ∷ []) rest (put_holds m front p holds (once_new front p rest once)) (subst IsOnce (sym (append_assoc front (p ∷ []) rest)) once))

-- the values of properties by their names
pub container_holds : (properties : Properties) → Holds (container_of properties) (property_list properties)
container_holds properties = fold_holds empty [] (property_list properties) none_held (listed_once properties)

-- what answers as the properties author is what they author
pub container_is : (m : Map) (ps : List Property) → Holds m ps → m ≡ container_of (properties_of ps)
container_is m ps holds = same_map locators_total locators_tie m (container_of (properties_of ps)) (λ q.
    holds q ∙ authored_same ps (property_list (properties_of ps)) q (listed_same ps) ∙ sym (container_holds (properties_of ps) q))

-- what properties author answers as they do
pub container_authors : (ps : List Property) → Holds (container_of (properties_of ps)) ps
container_authors ps = λ q. container_holds (properties_of ps) q ∙ sym (authored_same ps (property_list (properties_of ps)) q (listed_same ps))
