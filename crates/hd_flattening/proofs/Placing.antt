-- Values at the places of a flat container.
use Rattle.std.proofs.Common.{◌≡◌, ◌≢◌, ℕ, Bool, true, false, not, ◌&&◌, ◌||◌, cond, List, [], ◌∷◌, ◌++◌, Some, None, Result, Ok, Err, OnOk, OnErr, refl, ap, sym, subst, ◌∙◌}
use Rattle.std.specs.List.{list_all}
use Rattle.std.specs.FinMap.{get}
use Rattle.std.specs.Cmp.Lexicographic.{pointwise}
use Rattle.hd_path.specs.inner.Comparing.{names_same}
use Rattle.hd_value.specs.declared.value.Value.{Value}
use Rattle.hd_path.specs.Names.{is_same}
use Rattle.hd_path.specs.Paths.{is_prefix}
use Rattle.hd_path.proofs.NamePrefixes.{same_itself, and_true, nothing_left}
use Rattle.hd_path.proofs.Logic.{true_is_not, some_is_not}
use Rattle.hd_value.specs.Maps.{Map, IsFree, set_at}
use Rattle.hd_value.proofs.Getting.{eqk, eqk_same}
use Rattle.hd_value.proofs.Setting.{get-set_at}
use Rattle.hd_flattening.specs.inner.FlatLocators.{flat_locators, is_among, IsWithin}
use Rattle.hd_tokens.specs.Locators.{Locator}

-- whether two locators are one
abbrev pub same : List (List ℕ) → List (List ℕ) → Bool
same = pointwise is_same

-- what holds of each place holds of a locator that is among them
pub each_among : (test : List (List ℕ) → Bool) (places : List (List (List ℕ))) (at : Locator) → list_all test places ≡ true → is_among places at ≡ true → test at ≡ true
each_among test [] at all among = true_is_not (sym among)
each_among test (p ∷ places) at all among =
    let both = and_true (test p) (list_all test places) all in
    elim (same at p) as (λ b. same at p ≡ b → (b || is_among places at) ≡ true → test at ≡ true) [
      | true ↦ λ here _. ap test (names_same at p here) ∙ both.0
      | false ↦ λ _ later. each_among test places at both.1 later
    ] refl among

-- a place is no prefix of another one
pub locators_apart : (front at : Locator) → is_among flat_locators front ≡ true → is_among flat_locators at ≡ true → is_prefix front at ≡ true → front ≡ at
locators_apart front at among_front among_at prefix =
    let apart : (list_all (λ q. not (is_prefix front q) || same front q) flat_locators) ≡ true = each_among (λ p. list_all (λ q. not (is_prefix p q) || same p q) flat_locators) flat_locators front refl among_front in
    let here : (not (is_prefix front at) || same front at) ≡ true = each_among (λ q. not (is_prefix front q) || same front q) flat_locators at apart among_at in
    names_same front at (subst (λ b. (not b || same front at) ≡ true) prefix here)

is_prefix-append : (front rest : Locator) → is_prefix front (front ++ rest) ≡ true
is_prefix-append [] rest = refl
is_prefix-append (x ∷ front) rest = ap (λ b. b && is_prefix front (front ++ rest)) (same_itself x) ∙ is_prefix-append front rest

-- no value is above a place
pub locator_free : (m : Map) (at : Locator) → IsWithin flat_locators m → is_among flat_locators at ≡ true → IsFree m at
locator_free m at stands among front rest is some =
    elim (get m front) as (λ o. get m front ≡ o → o ≡ None) [
      | None ↦ λ _. refl
      | Some v ↦ λ there.
          let standing : is_among flat_locators front ≡ true = stands front (λ none. some_is_not v (sym there ∙ none)) in
          let above : is_prefix front at ≡ true = ap (is_prefix front) is ∙ is_prefix-append front rest in
          let one : front ≡ at = locators_apart front at standing among above in
          absurd (some (nothing_left front rest (one ∙ is)))
    ] refl

-- a value at a place leaves each value at a place
pub set_within : (m : Map) (at : Locator) (v : Value) → IsWithin flat_locators m → is_among flat_locators at ≡ true → IsWithin flat_locators (set_at m at v)
set_within m at v stands among q some =
    elim (eqk q at) as (λ b. eqk q at ≡ b → cond b (Some v) (cond (not (is_prefix at q)) (get m q) None) ≢ None → is_among flat_locators q ≡ true) [
      | true ↦ λ here _. ap (is_among flat_locators) (eqk_same q at here) ∙ among
      | false ↦ λ _. elim (is_prefix at q) as (λ b. cond (not b) (get m q) None ≢ None → is_among flat_locators q ≡ true) [
        | true ↦ λ no. absurd (no refl)
        | false ↦ λ there. stands q there
      ]
    ] refl (λ none. some (get-set_at m at v q ∙ none))

-- the same after a call that put a value, or was refused
pub put_within : {E : Type 0} (r : Result (Unit {0}) E) (old new : Map) (at : Locator) (v : Value) → IsWithin flat_locators old → is_among flat_locators at ≡ true
    → OnOk r (new ≡ set_at old at v) → OnErr r (new ≡ old) → IsWithin flat_locators new
put_within (Ok u) old new at v stands among put kept = subst (IsWithin flat_locators) (sym put) (set_within old at v stands among)
put_within (Err e) old new at v stands among put kept = subst (IsWithin flat_locators) (sym kept) stands
