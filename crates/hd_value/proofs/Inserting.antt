-- What an insertion into a set of locators does to what it intersects.
use Rattle.std.proofs.Common.{◌≡◌, Bool, true, false, not, cond, if◌then◌else◌, filter, [], ◌∷◌, ◌++◌, ◌||◌, refl, ap, sym, ◌∙◌}
use Rattle.std.proofs.Math.Bool.{or-true}
use Rattle.hd_tokens.specs.Locators.{Locator}
use Rattle.hd_value.specs.Locators.{intersects}
use Rattle.hd_path.specs.Paths.{is_prefix}
use Rattle.hd_path.proofs.NamePrefixes.{or_false}
use Rattle.hd_value.specs.LocatorSets.{LocatorSet, touches, covers, with_locator, IsApart}
use Rattle.hd_value.proofs.Prefixes.{above_intersects}

-- what begins with the locator goes
abbrev pub stays : Locator → Locator → Bool
stays at member = not (is_prefix at member)

or_same : (a b : Bool) → (b ≡ true → a ≡ true) → a ≡ (a || b)
or_same true b h = refl
or_same false true h = h refl
or_same false false h = refl

or_assoc : (a b c : Bool) → ((a || b) || c) ≡ (a || (b || c))
or_assoc true b c = refl
or_assoc false b c = refl

or_none : (a : Bool) → (a || false) ≡ a
or_none true = refl
or_none false = refl

pub touches-append : (xs ys : LocatorSet) (x : Locator) → touches (xs ++ ys) x ≡ (touches xs x || touches ys x)
touches-append [] ys x = refl
touches-append (m ∷ xs) ys x = ap (λ t. intersects m x || t) (touches-append xs ys x) ∙ sym (or_assoc (intersects m x) (touches xs x) (touches ys x))

covered : (set : LocatorSet) (at x : Locator) → covers set at ≡ true → intersects at x ≡ true → touches set x ≡ true
covered [] at x c h = c
covered (m ∷ set) at x c h =
    elim (is_prefix m at) as (λ t. is_prefix m at ≡ t → (t || covers set at) ≡ true → (intersects m x || touches set x) ≡ true) [
      | true ↦ λ p _. ap (λ t. t || touches set x) (above_intersects m at x p h)
      | false ↦ λ _ rest. let later : touches set x ≡ true = covered set at x rest h in ap (λ t. intersects m x || t) later ∙ or-true (intersects m x)
    ] refl c

-- what goes intersects no more than the locator
kept_touches : (set : LocatorSet) (at x : Locator) → (touches (filter (stays at) set) x || intersects at x) ≡ (touches set x || intersects at x)
kept_touches [] at x = refl
kept_touches (m ∷ set) at x =
    let rest : (touches (filter (stays at) set) x || intersects at x) ≡ (touches set x || intersects at x) = kept_touches set at x in
    elim (is_prefix at m) as (λ t. is_prefix at m ≡ t → (touches (cond (not t) (m ∷ filter (stays at) set) (filter (stays at) set)) x || intersects at x) ≡ ((intersects m x || touches set x) || intersects at x)) [
      | true ↦ λ p. rest ∙ gone (intersects m x) (touches set x) (intersects at x) (above_intersects at m x p)
      | false ↦ λ _. or_assoc (intersects m x) (touches (filter (stays at) set) x) (intersects at x) ∙ ap (λ t. intersects m x || t) rest ∙ sym (or_assoc (intersects m x) (touches set x) (intersects at x))
    ] refl
  where
    gone : (a b c : Bool) → (a ≡ true → c ≡ true) → (b || c) ≡ ((a || b) || c)
    gone true true c h = refl
    gone true false true h = refl
    gone true false false h = h refl
    gone false b c h = refl

pub inserted_intersects : (set : LocatorSet) (at x : Locator) → touches (with_locator set at) x ≡ (touches set x || intersects at x)
inserted_intersects set at x =
    elim (covers set at) as (λ t. covers set at ≡ t → touches (if t then set else filter (stays at) set ++ at ∷ []) x ≡ (touches set x || intersects at x)) [
      | true ↦ λ c. or_same (touches set x) (intersects at x) (covered set at x c)
      | false ↦ λ _. touches-append (filter (stays at) set) (at ∷ []) x ∙ ap (λ t. touches (filter (stays at) set) x || t) (or_none (intersects at x)) ∙ kept_touches set at x
    ] refl

untouched-filter : (p : Locator → Bool) (set : LocatorSet) (x : Locator) → touches set x ≡ false → touches (filter p set) x ≡ false
untouched-filter p [] x h = h
untouched-filter p (m ∷ set) x h =
    let apart = or_false (intersects m x) (touches set x) h in
    let rest : touches (filter p set) x ≡ false = untouched-filter p set x apart.1 in
    elim (p m) as (λ t. touches (cond t (m ∷ filter p set) (filter p set)) x ≡ false) [
      | true ↦ ap (λ t. t || touches (filter p set) x) apart.0 ∙ rest
      | false ↦ rest
    ]

-- a set into which a locator goes that begins with no member
pub apart_after : (set : LocatorSet) (at : Locator) → IsApart set → covers set at ≡ false → IsApart (filter (λ member. not (is_prefix at member)) set ++ at ∷ [])
apart_after [] at h c = (refl, tt)
apart_after (m ∷ set) at h c =
    let above = or_false (is_prefix m at) (covers set at) c in
    let rest : IsApart (filter (stays at) set ++ at ∷ []) = apart_after set at h.1 above.1 in
    elim (is_prefix at m) as (λ t. is_prefix at m ≡ t → IsApart (cond (not t) (m ∷ filter (stays at) set) (filter (stays at) set) ++ at ∷ [])) [
      | true ↦ λ _. rest
      | false ↦ λ below.
          let alone : touches (at ∷ []) m ≡ false = ap (λ t. (t || is_prefix m at) || false) below ∙ ap (λ t. t || false) above.0 in
          (touches-append (filter (stays at) set) (at ∷ []) m ∙ ap (λ t. t || touches (at ∷ []) m) (untouched-filter (stays at) set m h.0) ∙ alone, rest)
    ] refl

pub inserted_apart : (set : LocatorSet) (at : Locator) → covers set at ≡ false → filter (λ member. not (is_prefix at member)) set ++ at ∷ [] ≡ with_locator set at
inserted_apart set at c = ap (λ t. if t then set else filter (stays at) set ++ at ∷ []) (sym c)

pub inserted_covered : (set : LocatorSet) (at : Locator) → covers set at ≡ true → set ≡ with_locator set at
inserted_covered set at c = ap (λ t. if t then set else filter (stays at) set ++ at ∷ []) (sym c)

pub ruleset insertions = (apart_after, inserted_apart, inserted_covered)
