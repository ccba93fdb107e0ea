-- Locators above which no value is.
use Rattle.std.proofs.Common.{◌≡◌, ◌≢◌, ℕ, Bool, List, [], ◌∷◌, ◌++◌, length, Some, None, IsTrue, ◌↔◌, refl, ap, sym, subst, ◌∙◌, arith}
use Rattle.hd_tokens.specs.Locators.{Locator}
use Rattle.hd_value.specs.declared.value.Value.{Value}
use Rattle.hd_value.specs.declared.container.Entry.{Entry}
use Rattle.hd_value.specs.declared.container.Source.TheVariants.{Inner, Leaf}
use Rattle.hd_value.specs.Maps.{Map, IsFree}
use Rattle.hd_value.specs.inner.Entries.{source_at, AreEntries}
use Rattle.hd_value.proofs.Getting.{map_of, value_in, get-level, get-root, no_items}
use Rattle.hd_value.proofs.Setting.{free_inner, free_leaf}

nothing_after : (front rest : Locator) → [] ≡ front ++ rest → rest ≡ []
nothing_after [] rest e = sym e
nothing_after (x ∷ front) rest e = cc

pub free_root : (m : Map) (tokens : Locator) → length tokens ≡ 0 → IsFree m tokens
free_root m tokens none front rest e some = absurd (some (nothing_after front rest (sym (no_items tokens none) ∙ e)))

free_after : (es : List Entry) (t : List ℕ) (at : Locator) → AreEntries es → ((front rest : Locator) → at ≡ front ++ rest → rest ≢ [] → value_in (source_at t es) front ≡ None) → IsFree (map_of es) (t ∷ at)
free_after es t at h none [] rest e some = get-root es
free_after es t at h none (x ∷ front) rest e some =
    let first : t ≡ x = cc in
    let later : at ≡ front ++ rest = cc in
    get-level x front es h ∙ ap (λ w. value_in (source_at w es) front) (sym first) ∙ none front rest later some

named_free : (m : Map) (es : List Entry) (tokens : Locator) (t : List ℕ) (at : Locator) → m ≡ map_of es → tokens ≡ t ∷ at → IsFree (map_of es) (t ∷ at) → IsFree m tokens
named_free m es tokens t at is named free = subst (λ (k : Map). IsFree k tokens) (sym is) (subst (λ (ts : Locator). IsFree (map_of es) ts) (sym named) free)

free_named : (m : Map) (es : List Entry) (tokens : Locator) (t : List ℕ) (at : Locator) → m ≡ map_of es → tokens ≡ t ∷ at → IsFree m tokens → IsFree (map_of es) (t ∷ at)
free_named m es tokens t at is named free = subst (λ (ts : Locator). IsFree (map_of es) ts) named (subst (λ (k : Map). IsFree k tokens) is free)

pub free_beside : (m : Map) (es : List Entry) (tokens : Locator) (t : List ℕ) (at : Locator) → m ≡ map_of es → tokens ≡ t ∷ at → AreEntries es → source_at t es ≡ None → IsFree m tokens
free_beside m es tokens t at is named h there = named_free m es tokens t at is named (free_after es t at h (λ front rest e some. ap (λ o. value_in o front) there))

pub free_inside : (m : Map) (es : List Entry) (tokens : Locator) (t : List ℕ) (at : Locator) (n : Map) (b : Bool) → m ≡ map_of es → tokens ≡ t ∷ at → AreEntries es → source_at t es ≡ Some (Inner n) → (IsTrue b ↔ IsFree n at) → (IsTrue b ↔ IsFree m tokens)
free_inside m es tokens t at n b is named h there inner = (
  λ yes. named_free m es tokens t at is named (free_after es t at h (λ front rest e some. ap (λ o. value_in o front) there ∙ inner.0 yes front rest e some)),
  λ free. inner.1 (free_inner es t n at h there (free_named m es tokens t at is named free)),
)

pub free_on_leaf : (m : Map) (es : List Entry) (tokens : Locator) (t : List ℕ) (at : Locator) (v : Value) (b : Bool) → m ≡ map_of es → tokens ≡ t ∷ at → AreEntries es → source_at t es ≡ Some (Leaf v) → (IsTrue b ↔ (length at ≡ 0)) → (IsTrue b ↔ IsFree m tokens)
free_on_leaf m es tokens t [] v b is named h there empty =
    (λ yes. named_free m es tokens t [] is named (free_after es t [] h (λ front rest e some. absurd (some (nothing_after front rest e)))), λ free. empty.1 refl)
free_on_leaf m es tokens t (u ∷ at) v b is named h there empty =
    (λ yes. absurd (no_length (empty.0 yes)), λ free. absurd (free_leaf es t v u at h there (free_named m es tokens t (u ∷ at) is named free)))
  where
    no_length : length (u ∷ at) ≡ 0 → ⊥
    no_length e = omega arith
