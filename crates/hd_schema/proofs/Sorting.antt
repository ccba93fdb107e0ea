-- Properties in another order author the same.
use Rattle.std.proofs.Common.{◌≡◌, ℕ, zero, suc, ◌+◌, ◌<◌, ◌≤◌, Bool, true, false, not, ◌||◌, cond, List, [], ◌∷◌, ◌++◌, map, length, take, drop, get_or, Bor, Option, Some, None, refl, ap, sym, subst, ◌∙◌, arith, take-append-drop, drop-cons}
use Rattle.std.specs.Cmp.Lexicographic.{bytes_decides}
use Rattle.std.specs.List.{find, list_any, sum_by, Contains, slice_index_or}
use Rattle.std.specs.List.Sorted.{IsPermutation}
use Rattle.std.specs.Option.{option_and_then, is_some}
use Rattle.std.specs.Str.{bytes_eq}
use Rattle.std.proofs.lemmas.List.{take_all, take_more, map-append}
use Rattle.std.proofs.lemmas.List.Sums.{sum_by-cons}
use Rattle.std.proofs.lemmas.List.Sorted.{Contains-permutation, sum_by-IsPermutation, list_any-IsPermutation}
use Rattle.std.proofs.lemmas.Bool.{not-true}
use Rattle.hd_path.proofs.Logic.{true_is_not, some_is_not}
use Rattle.hd_path.proofs.NamePrefixes.{and_true}
use Rattle.hd_layer.specs.declared.spec.Property.{Property}
use Rattle.hd_tokens.specs.Locators.{Locator}
use Rattle.hd_tokens.specs.Properties.{locator_of}
use Rattle.hd_layer.specs.declared.spec.PrimSpec.{PrimSpec}
use Rattle.hd_layer.specs.WellFormed.{are_distinct, is_prim_spec}
use Rattle.hd_value.specs.Maps.{Map}
use Rattle.hd_schema.specs.Places.{is_at}
use Rattle.hd_schema.specs.Authored.{property_value, authored_at}
use Rattle.hd_schema.proofs.Apart.{names_apart}
use Rattle.hd_schema.proofs.Lookups.{found_passes, is_some-find}
use Rattle.hd_schema.proofs.Putting.{Holds, IsNew, standing, located_stands, is_prefix_self}

-- how many pass the test
abbrev pub count : {X : Type 0} → (X → Bool) → List X → ℕ
count test [] = 0
count test (x ∷ xs) = cond (test x) 1 0 + count test xs

count_is : {X : Type 0} (test : X → Bool) (xs : List X) → sum_by (λ x. cond (test x) 1 0) xs ≡ count test xs
count_is test [] = refl
count_is test (x ∷ xs) = sum_by-cons (λ y. cond (test y) 1 0) x xs ∙ ap (λ n. cond (test x) 1 0 + n) (count_is test xs)

counts_one : (b : Bool) → b ≡ true → cond {A = ℕ} b 1 0 ≡ 1
counts_one true e = refl
counts_one false e = true_is_not (sym e)

-- whether a property has the name
abbrev pub has_name : List ℕ → Property → Bool
has_name name p = bytes_eq name p.name

-- no name is twice
pub record IsOnce (ps : List Property) : Type 0 where
  pub once : (name : List ℕ) → count (has_name name) ps ≤ 1

none_counted : (name : List ℕ) (ps : List Property) → list_any (bytes_eq name) (map (λ (x : Property). x.name) ps) ≡ false → count (has_name name) ps ≡ 0
none_counted name [] none = refl
none_counted name (p ∷ ps) none =
    elim (bytes_eq name p.name) as (λ b. (b || list_any (bytes_eq name) (map (λ (x : Property). x.name) ps)) ≡ false → cond b 1 0 + count (has_name name) ps ≡ 0) [
      | true ↦ λ no. true_is_not no
      | false ↦ λ later. omega (arith, none_counted name ps later)
    ] none

counted_once : (name : List ℕ) (ps : List Property) → are_distinct (map (λ (x : Property). x.name) ps) ≡ true → count (has_name name) ps ≤ 1
counted_once name [] e = omega arith
counted_once name (p ∷ ps) e =
    let both = and_true (not (list_any (bytes_eq p.name) (map (λ (x : Property). x.name) ps))) (are_distinct (map (λ (x : Property). x.name) ps)) e in
    let none : count (has_name p.name) ps ≡ 0 = none_counted p.name ps (not-true (list_any (bytes_eq p.name) (map (λ (x : Property). x.name) ps)) both.0) in
    let rest : count (has_name name) ps ≤ 1 = counted_once name ps both.1 in
    elim (bytes_eq name p.name) as (λ b. bytes_eq name p.name ≡ b → cond b 1 0 + count (has_name name) ps ≤ 1) [
      | true ↦ λ same.
          let here : count (has_name name) ps ≡ 0 = ap (λ n. count (has_name n) ps) ((bytes_decides name p.name).0 same) ∙ none in
          omega arith
      | false ↦ λ _. omega arith
    ] refl

pub distinct_once : (ps : List Property) → are_distinct (map (λ (x : Property). x.name) ps) ≡ true → IsOnce ps
distinct_once ps e = record { once = λ name. counted_once name ps e }

pub permuted_once : (ps qs : List Property) → IsPermutation ps qs → IsOnce ps → IsOnce qs
permuted_once ps qs moved h = record { once = λ name. omega (arith, h.once name, count_is (has_name name) ps, count_is (has_name name) qs, sum_by-IsPermutation (λ (x : Property). cond (has_name name x) 1 0) ps qs moved) }

counted_last : (front : List Property) (p : Property) (rest : List Property) → 1 ≤ count (has_name p.name) (front ++ p ∷ rest)
counted_last [] p rest = let one : cond {A = ℕ} (has_name p.name p) 1 0 ≡ 1 = counts_one (bytes_eq p.name p.name) ((bytes_decides p.name p.name).1 refl) in omega arith
counted_last (x ∷ front) p rest = omega (arith, counted_last front p rest)

-- a name that is once is new after those before it
pub once_new : (front : List Property) (p : Property) (rest : List Property) → IsOnce (front ++ p ∷ rest) → IsNew p.name front
once_new [] p rest h = refl
once_new (x ∷ front) p rest h =
    elim (bytes_eq x.name p.name) as (λ b. bytes_eq x.name p.name ≡ b → (b || list_any (λ (y : Property). bytes_eq y.name p.name) front) ≡ false) [
      | true ↦ λ same.
          let here : bytes_eq p.name x.name ≡ true = (bytes_decides p.name x.name).1 (sym ((bytes_decides x.name p.name).0 same)) in
          let twice : cond {A = ℕ} (bytes_eq p.name x.name) 1 0 + count (has_name p.name) (front ++ p ∷ rest) ≤ 1 = h.once p.name in
          let one : cond {A = ℕ} (bytes_eq p.name x.name) 1 0 ≡ 1 = counts_one (bytes_eq p.name x.name) here in
          absurd (omega (arith, counted_last front p rest))
      | false ↦ λ _. once_new front p rest (record { once = λ name. let once : cond {A = ℕ} (bytes_eq name x.name) 1 0 + count (has_name name) (front ++ p ∷ rest) ≤ 1 = h.once name in omega arith })
    ] refl

-- what is found is one of the list
found_there : {X : Type 0} (test : X → Bool) (xs : List X) (x : X) → find test xs ≡ Some x → Contains xs x
found_there test [] x e = some_is_not x (sym e)
found_there test (y ∷ ys) x e =
    elim (test y) as (λ b. cond b (Some y) (find test ys) ≡ Some x → Contains (y ∷ ys) x) [
      | true ↦ λ is. let same : y ≡ x = cc in (0, omega arith, same)
      | false ↦ λ is. let there = found_there test ys x is in (suc there.0, omega (arith, there.1), there.2)
    ] e

counted_in : {X : Type 0} (test : X → Bool) (xs : List X) (x : X) → test x ≡ true → Contains xs x → 1 ≤ count test xs
counted_in test [] x passes h = absurd (omega (arith, h.1))
counted_in {X} test (y ∷ ys) x passes h =
    elim h.0 as (λ k. k < length (y ∷ ys) → slice_index_or (y ∷ ys) k x ≡ x → 1 ≤ cond (test y) 1 0 + count test ys) [
      | zero ↦ λ _ is. let one : cond {A = ℕ} (test y) 1 0 ≡ 1 = counts_one (test y) (ap test is ∙ passes) in omega arith
      | suc k ↦ λ below is. omega (arith, counted_in test ys x passes (k, omega arith, is))
    ] h.1 h.2

-- the only one that passes is found
pub found_only : {X : Type 0} (test : X → Bool) (xs : List X) (x : X) → count test xs ≤ 1 → test x ≡ true → Contains xs x → find test xs ≡ Some x
found_only test [] x once passes h = absurd (omega (arith, h.1))
found_only {X} test (y ∷ ys) x once passes h =
    elim h.0 as (λ k. k < length (y ∷ ys) → slice_index_or (y ∷ ys) k x ≡ x → cond (test y) (Some y) (find test ys) ≡ Some x) [
      | zero ↦ λ _ is. ap (λ b. cond b (Some y) (find test ys)) (ap test is ∙ passes) ∙ ap Some is
      | suc k ↦ λ below is.
          let there : Contains ys x = (k, omega arith, is) in
          elim (test y) as (λ b. cond b 1 0 + count test ys ≤ 1 → cond b (Some y) (find test ys) ≡ Some x) [
            | true ↦ λ twice. absurd (omega (arith, counted_in test ys x passes there))
            | false ↦ λ rest. found_only test ys x (omega arith) passes there
          ] once
    ] h.1 h.2

count_same : {X : Type 0} (p q : X → Bool) → ((x : X) → p x ≡ q x) → (xs : List X) → count p xs ≡ count q xs
count_same p q same [] = refl
count_same p q same (x ∷ xs) = ap (λ b. cond b 1 0 + count p xs) (same x) ∙ ap (λ n. cond (q x) 1 0 + n) (count_same p q same xs)

-- at a place where one property is, those that are there have its name
named_there : (q : Locator) (p : Property) → locator_of p.name ≡ Some q → (x : Property) → is_at x.name q ≡ has_name p.name x
named_there q p located x =
    elim (bytes_eq p.name x.name) as (λ b. bytes_eq p.name x.name ≡ b → is_at x.name q ≡ b) [
      | true ↦ λ same. located_stands x.name q (ap locator_of (sym ((bytes_decides p.name x.name).0 same)) ∙ located)
      | false ↦ λ other. elim (is_at x.name q) as (λ b. is_at x.name q ≡ b → b ≡ false) [
        | true ↦ λ there. sym ((bytes_decides p.name x.name).1 (names_apart p.name x.name q q located (standing x.name q there) (is_prefix_self q))) ∙ other
        | false ↦ λ _. refl
      ] refl
    ] refl

none_found : {X : Type 0} (o : Option X) → is_some o ≡ false → o ≡ None
none_found None e = refl
none_found (Some x) e = true_is_not e

-- a property that is once is the one that is found at its place
pub found_own : (ps : List Property) (q : Locator) (p : Property) → IsOnce ps → Contains ps p → locator_of p.name ≡ Some q → find (λ (x : Property). is_at x.name q) ps ≡ Some p
found_own ps q p h there located =
    let once : count (has_name p.name) ps ≤ 1 = h.once p.name in
    let same = count_same (λ (x : Property). is_at x.name q) (has_name p.name) (named_there q p located) ps in
    found_only (λ (x : Property). is_at x.name q) ps p (omega (arith, same)) (located_stands p.name q located) there

found_permuted : (ps qs : List Property) (q : Locator) → IsPermutation ps qs → IsOnce ps → find (λ (x : Property). is_at x.name q) qs ≡ find (λ (x : Property). is_at x.name q) ps
found_permuted ps qs q moved h =
    elim (find (λ (x : Property). is_at x.name q) ps) as (λ o. find (λ (x : Property). is_at x.name q) ps ≡ o → find (λ (x : Property). is_at x.name q) qs ≡ o) [
      | Some p ↦ λ found.
          let located = standing p.name q (found_passes (λ (x : Property). is_at x.name q) ps p found) in
          found_own qs q p (permuted_once ps qs moved h) (Contains-permutation ps qs p moved (found_there (λ (x : Property). is_at x.name q) ps p found)) located
      | None ↦ λ none.
          none_found (find (λ (x : Property). is_at x.name q) qs)
          (is_some-find (λ (x : Property). is_at x.name q) qs ∙ sym (list_any-IsPermutation (λ (x : Property). is_at x.name q) ps qs moved) ∙ sym (is_some-find (λ (x : Property). is_at x.name q) ps) ∙ ap is_some none)
    ] refl

pub authored_permuted : (ps qs : List Property) (q : Locator) → IsPermutation ps qs → IsOnce ps → authored_at qs q ≡ authored_at ps q
authored_permuted ps qs q moved h = ap (option_and_then property_value) (found_permuted ps qs q moved h)

-- the next of a list, and those before and after it
split_next : (rs : List (Bor Property)) (i : ℕ) (r : Bor Property) → i < length rs → r ≡ get_or rs i r → map (λ (x : Bor Property). x.now) (take i rs) ++ r.now ∷ map (λ (x : Bor Property). x.now) (drop (suc i) rs) ≡ map (λ (x : Bor Property). x.now) rs
split_next rs i r below is =
    ap (λ (x : Bor Property). map (λ (y : Bor Property). y.now) (take i rs) ++ x.now ∷ map (λ (y : Bor Property). y.now) (drop (suc i) rs)) is
    ∙ ap (λ (more : List (Bor Property)). map (λ (y : Bor Property). y.now) (take i rs) ++ map (λ (y : Bor Property). y.now) more) (sym (drop-cons rs i r below))
    ∙ sym (map-append (λ (y : Bor Property). y.now) (take i rs) (drop i rs))
    ∙ ap (map (λ (y : Bor Property). y.now)) (take-append-drop i rs)

pub next_new : (rs : List (Bor Property)) (i : ℕ) (r : Bor Property) → i < length rs → r ≡ get_or rs i r → IsOnce (map (λ (x : Bor Property). x.now) rs) → IsNew r.now.name (map (λ (x : Bor Property). x.now) (take i rs))
next_new rs i r below is once =
    once_new (map (λ (x : Bor Property). x.now) (take i rs)) r.now (map (λ (x : Bor Property). x.now) (drop (suc i) rs)) (subst IsOnce (sym (split_next rs i r below is)) once)

pub next_taken : (rs : List (Bor Property)) (i : ℕ) (r : Bor Property) → i < length rs → r ≡ get_or rs i r → map (λ (x : Bor Property). x.now) (take i rs) ++ r.now ∷ [] ≡ map (λ (x : Bor Property). x.now) (take (i + 1) rs)
next_taken rs i r below is =
    ap (λ (x : Bor Property). map (λ (y : Bor Property). y.now) (take i rs) ++ x.now ∷ []) is
    ∙ sym (map-append (λ (y : Bor Property). y.now) (take i rs) (get_or rs i r ∷ []))
    ∙ ap (map (λ (y : Bor Property). y.now)) (sym (take_more rs i r below))

pub prim_once : (prim : PrimSpec) → is_prim_spec prim ≡ true → IsOnce prim.properties
prim_once prim formed = distinct_once prim.properties (and_true _ (are_distinct (map (λ (x : Property). x.name) prim.properties)) formed).1

-- the properties in the order in which they are put
pub moved_to : (ps items : List Property) (sorted rs : List (Bor Property)) → items ≡ ps → rs ≡ sorted → IsPermutation items (map (λ (x : Bor Property). x.now) sorted) → IsPermutation ps (map (λ (x : Bor Property). x.now) rs)
moved_to ps items sorted rs same same_sorted moved =
    subst (λ (xs : List Property). IsPermutation xs (map (λ (x : Bor Property). x.now) rs)) same
    (subst (λ (ys : List (Bor Property)). IsPermutation items (map (λ (x : Bor Property). x.now) ys)) (sym same_sorted) moved)

-- after the last one the map holds all
pub held_all : (m : Map) (prim : PrimSpec) (rs : List (Bor Property)) (i : ℕ) → is_prim_spec prim ≡ true → IsPermutation prim.properties (map (λ (x : Bor Property). x.now) rs) → length rs ≤ i → Holds m (map (λ (x : Bor Property). x.now) (take i rs)) → Holds m prim.properties
held_all m prim rs i formed moved all holds q =
    holds q
    ∙ ap (λ (xs : List (Bor Property)). authored_at (map (λ (x : Bor Property). x.now) xs) q) (take_all i rs all)
    ∙ authored_permuted prim.properties (map (λ (x : Bor Property). x.now) rs) q moved (prim_once prim formed)
