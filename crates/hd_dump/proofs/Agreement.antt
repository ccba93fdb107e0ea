-- Kept slots and their contents are numbered alike, and counted alike.
use Rattle.std.proofs.Common.{◌≡◌, ℕ, zero, suc, ◌+◌, Bool, true, false, cond, not, List, [], ◌∷◌, ◌++◌, refl, ap, sym, subst, ◌∙◌, nat_eq, nat_lt, if◌then◌else◌, ◌||◌, ⊎_elim, arith, Option, Some, None, is_some, slice_get, unwrap_or, map, fold, count_by, position}
use Rattle.std.specs.List.{list_any, prefix_len}
use Rattle.std.proofs.lemmas.Bool.{cases_eq, true≢false}
use Rattle.std.proofs.lemmas.Bool.Decides.{nat_tests}
use Rattle.std.proofs.lemmas.List.{length-map, map-append}
use Rattle.hd_registry.specs.Entries.{Entries, content_at, is_kept, Unique}
use Rattle.hd_rprim.specs.declared.buffer.Buffer.{Buffer}
use Rattle.hd_rprim.specs.declared.buffer.Buffer.TheVariants.{Points}
use Rattle.hd_rprim.specs.inner.Equality.{same_buffer, buffer_itself}
use Rattle.hd_dump.specs.Contents.{same, with_item, distinct, users_in}
use Rattle.hd_dump.specs.inner.Numbering.{content_or_none, AreKept}

-- a slot among kept ones is kept
pub kept_at : (entries : Entries Buffer) (slots : List ℕ) (i slot : ℕ) → AreKept entries slots → slice_get slots i ≡ Some slot → is_kept entries slot ≡ true
kept_at entries [] i slot kept found = absurd (cc)
kept_at entries (s ∷ slots) zero slot kept found =
    let here : s ≡ slot = cc in
    subst (λ (t : ℕ). is_kept entries t ≡ true) here kept.0
kept_at entries (s ∷ slots) (suc i) slot kept found = kept_at entries slots i slot kept.1 found

-- a kept slot has its content
pub content_there : (entries : Entries Buffer) (slot : ℕ) → is_kept entries slot ≡ true → content_at entries slot ≡ Some (content_or_none entries slot)
content_there entries slot kept = by (content_at entries slot) refl
  where
    by : (found : Option Buffer) → content_at entries slot ≡ found → content_at entries slot ≡ Some (content_or_none entries slot)
    by None none = absurd (true≢false (sym kept ∙ ap is_some none))
    by (Some content) there = there ∙ ap Some (sym (ap (λ (o : Option Buffer). unwrap_or o (Points [])) there))

module _ (entries : Entries Buffer) (unique : Unique entries) where
  -- kept slots have equal contents exactly where they are one
  alike : (s t : ℕ) → is_kept entries s ≡ true → is_kept entries t ≡ true → same (content_or_none entries s) (content_or_none entries t) ≡ nat_eq s t
  alike s t kept_s kept_t = ⊎_elim one two (cases_eq s t)
    where
      one : s ≡ t → same (content_or_none entries s) (content_or_none entries t) ≡ nat_eq s t
      one is =
          let itself : nat_eq s s ≡ true = grind (arith, nat_tests) in
          subst (λ (u : ℕ). same (content_or_none entries s) (content_or_none entries u) ≡ nat_eq s u) is
          (buffer_itself (content_or_none entries s) ∙ sym itself)

      apart : (b : Bool) → same (content_or_none entries s) (content_or_none entries t) ≡ b → (s ≡ t → ⊥) → b ≡ false
      apart false is ne = refl
      apart true is ne =
          absurd (ne (unique s t (content_or_none entries s) (content_there entries s kept_s)
          (content_there entries t kept_t ∙ ap Some (sym (same_buffer _ _ is)))))

      two : (s ≡ t → ⊥) → same (content_or_none entries s) (content_or_none entries t) ≡ nat_eq s t
      two ne =
          let other : nat_eq s t ≡ false = grind (arith, nat_tests) in
          apart _ refl ne ∙ sym other

  any_alike : (slot : ℕ) (slots : List ℕ) → is_kept entries slot ≡ true → AreKept entries slots
      → list_any (same (content_or_none entries slot)) (map (content_or_none entries) slots) ≡ list_any (nat_eq slot) slots
  any_alike slot [] kept all = refl
  any_alike slot (s ∷ slots) kept all =
      ap (λ (b : Bool). b || list_any (same (content_or_none entries slot)) (map (content_or_none entries) slots)) (alike slot s kept all.0)
      ∙ ap (λ (b : Bool). nat_eq slot s || b) (any_alike slot slots kept all.1)

  map_if : (b : Bool) (slot : ℕ) (slots : List ℕ)
      → (if b then map (content_or_none entries) slots else map (content_or_none entries) slots ++ content_or_none entries slot ∷ [])
      ≡ map (content_or_none entries) (if b then slots else slots ++ slot ∷ [])
  map_if true slot slots = refl
  map_if false slot slots = sym (map-append (content_or_none entries) slots (slot ∷ []))

  with_alike : (slot : ℕ) (slots : List ℕ) → is_kept entries slot ≡ true → AreKept entries slots
      → with_item same (map (content_or_none entries) slots) (content_or_none entries slot) ≡ map (content_or_none entries) (with_item nat_eq slots slot)
  with_alike slot slots kept all =
      ap (λ (b : Bool). if b then map (content_or_none entries) slots else map (content_or_none entries) slots ++ content_or_none entries slot ∷ [])
      (any_alike slot slots kept all)
      ∙ map_if (list_any (nat_eq slot) slots) slot slots

  kept_with_one : (slot : ℕ) (slots : List ℕ) → is_kept entries slot ≡ true → AreKept entries slots → AreKept entries (slots ++ slot ∷ [])
  kept_with_one slot [] kept all = (kept, tt)
  kept_with_one slot (s ∷ slots) kept all = (all.0, kept_with_one slot slots kept all.1)

  kept_with : (slot : ℕ) (slots : List ℕ) → is_kept entries slot ≡ true → AreKept entries slots → AreKept entries (with_item nat_eq slots slot)
  kept_with slot slots kept all =
      elim (list_any (nat_eq slot) slots) as (λ b. AreKept entries (if b then slots else slots ++ slot ∷ []))
      [ true ↦ all | false ↦ kept_with_one slot slots kept all ]

  all_alike : (known used : List ℕ) → AreKept entries known → AreKept entries used
      → fold (with_item same) (map (content_or_none entries) known) (map (content_or_none entries) used) ≡ map (content_or_none entries) (fold (with_item nat_eq) known used)
  all_alike known [] kept all = refl
  all_alike known (slot ∷ used) kept all =
      ap (λ (contents : List Buffer). fold (with_item same) contents (map (content_or_none entries) used)) (with_alike slot known all.0 kept)
      ∙ all_alike (with_item nat_eq known slot) used (kept_with slot known all.0 kept) all.1

  -- distinct contents are those of the distinct slots
  pub distinct_alike : (used : List ℕ) → AreKept entries used → distinct same (map (content_or_none entries) used) ≡ map (content_or_none entries) (distinct nat_eq used)
  distinct_alike used all = all_alike [] used tt all

  all_kept : (known used : List ℕ) → AreKept entries known → AreKept entries used → AreKept entries (fold (with_item nat_eq) known used)
  all_kept known [] kept all = kept
  all_kept known (slot ∷ used) kept all = all_kept (with_item nat_eq known slot) used (kept_with slot known all.0 kept) all.1

  -- distinct slots of kept ones are kept
  pub distinct_kept : (used : List ℕ) → AreKept entries used → AreKept entries (distinct nat_eq used)
  distinct_kept used all = all_kept [] used tt all

  places_alike : (slot : ℕ) (slots : List ℕ) → is_kept entries slot ≡ true → AreKept entries slots
      → prefix_len (λ x. not (same (content_or_none entries slot) x)) (map (content_or_none entries) slots) ≡ prefix_len (λ x. not (nat_eq slot x)) slots
  places_alike slot [] kept all = refl
  places_alike slot (s ∷ slots) kept all =
      ap (λ (b : Bool). cond (not b) (1 + prefix_len (λ x. not (same (content_or_none entries slot) x)) (map (content_or_none entries) slots)) 0) (alike slot s kept all.0)
      ∙ ap (λ (n : ℕ). cond (not (nat_eq slot s)) (1 + n) 0) (places_alike slot slots kept all.1)

  -- a content has the number of its slot
  pub number_alike : (slot : ℕ) (slots : List ℕ) → is_kept entries slot ≡ true → AreKept entries slots
      → position (same (content_or_none entries slot)) (map (content_or_none entries) slots) ≡ position (nat_eq slot) slots
  number_alike slot slots kept all =
      let place = places_alike slot slots kept all in
      let size = length-map slots (content_or_none entries) in
      (λ i. cond (nat_lt (place i) (size i)) (Some (place i)) None)

  counts_alike : (a slot : ℕ) (used : List ℕ) → is_kept entries slot ≡ true → AreKept entries used
      → fold (λ n x. n + cond (same (content_or_none entries slot) x) 1 0) a (map (content_or_none entries) used) ≡ fold (λ n x. n + cond (nat_eq slot x) 1 0) a used
  counts_alike a slot [] kept all = refl
  counts_alike a slot (s ∷ used) kept all =
      ap (λ (b : Bool). fold (λ n x. n + cond (same (content_or_none entries slot) x) 1 0) (a + cond b 1 0) (map (content_or_none entries) used)) (alike slot s kept all.0)
      ∙ counts_alike (a + cond (nat_eq slot s) 1 0) slot used kept all.1

  -- a content has the uses of its slot
  pub users_alike : (slot : ℕ) (used : List ℕ) → is_kept entries slot ≡ true → AreKept entries used
      → users_in same (map (content_or_none entries) used) (content_or_none entries slot) ≡ count_by (nat_eq slot) used
  users_alike slot used kept all = counts_alike 0 slot used kept all
