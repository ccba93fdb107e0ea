-- Entries that come to free places.
use Rattle.std.proofs.Common.{◌≡◌, ◌≢◌, ◌⊎◌, inl, inr, ℕ, ◌<◌, ◌≤◌, ◌+◌, suc, zero, true, false, cond, ◌==◌, [], ◌∷◌, ◌++◌, length, Option, Some, None, is_some, get_or-set_other, get_or-set_same, refl, sym, ◌∙◌, ap, arith}
use Rattle.std.proofs.Math.ListN.{set}
use Rattle.std.proofs.lemmas.Bool.Decides.{eqb_tells}
use Rattle.hd_registry.specs.declared.content.Entry.{Entry}
use Rattle.hd_registry.specs.Entries.{Entries, entry_at, content_of, users_of, content_at, users_at, is_kept, one_at, Unique, Lacks, Registers}
use Rattle.hd_registry.specs.inner.Indexes.{Index, is_found, IsIndexed}
use Rattle.hd_registry.specs.inner.Steps.{Puts}

none_some : {X P : Type 0} (x : X) → let none : Option X = None in none ≡ Some x → P
none_some x e = absurd (cc)

pub puts_set : {C : Type 0} (entries new : Entries C) (place : ℕ) (entry : Entry C) → place < length entries → new ≡ set entries place (Some entry) → Puts entries place entry new
puts_set {C} entries new place entry h e = record {
  there = ap (λ (es : Entries C). entry_at es place) e ∙ get_or-set_same entries place (Some entry) None h;
  others = λ t n. ap (λ (es : Entries C). entry_at es t) e ∙ get_or-set_other entries place t (Some entry) None n;
}

push_at : {C : Type 0} (entries : Entries C) (o : Option (Entry C)) (t : ℕ) → t ≢ length entries → entry_at (entries ++ o ∷ []) t ≡ entry_at entries t
push_at [] o zero n = absurd (n refl)
push_at [] o (suc t) n = refl
push_at (x ∷ entries) o zero n = refl
push_at (x ∷ entries) o (suc t) n = push_at entries o t (λ e. n (ap suc e))

push_there : {C : Type 0} (entries : Entries C) (o : Option (Entry C)) → entry_at (entries ++ o ∷ []) (length entries) ≡ o
push_there [] o = refl
push_there (x ∷ entries) o = push_there entries o

pub puts_push : {C : Type 0} (entries new : Entries C) (place : ℕ) (entry : Entry C) → place ≡ length entries → new ≡ entries ++ Some entry ∷ [] → Puts entries place entry new
puts_push {C} entries new place entry h e = record {
  there = ap (λ (es : Entries C). entry_at es place) e ∙ ap (λ t. entry_at (entries ++ Some entry ∷ []) t) h ∙ push_there entries (Some entry);
  others = λ t n. ap (λ (es : Entries C). entry_at es t) e ∙ push_at entries (Some entry) t (λ k. n (k ∙ sym h));
}

-- no entry is after the last place
pub free_end : {C : Type 0} (entries : Entries C) → entry_at entries (length entries) ≡ None
free_end [] = refl
free_end (x ∷ entries) = free_end entries

one_there : (place : ℕ) → one_at place place ≡ 1
one_there place = elim (eqb_tells place place) [ inl h ↦ ap (λ b. cond b 1 0) h.0 | inr h ↦ absurd (h.1 refl) ]

one_elsewhere : (place t : ℕ) → t ≢ place → one_at place t ≡ 0
one_elsewhere place t n = elim (eqb_tells place t) [ inl h ↦ absurd (n (sym h.1)) | inr h ↦ ap (λ b. cond b 1 0) h.0 ]

pub registers_put : {C : Type 0} (old new : Entries C) (place : ℕ) (entry : Entry C) → entry.users ≡ 1 → entry_at old place ≡ None → Lacks old entry.content → Puts old place entry new → Registers old place entry.content new
registers_put {C} old new place entry one free lacks puts = record {
  extends = record { contents = contents; users = users };
  fresh = fresh;
  has = ap content_of puts.there;
  known = λ t h. absurd (lacks t h);
}
  where
    contents : (t : ℕ) (content : C) → content_at old t ≡ Some content → content_at new t ≡ Some content
    contents t content h = elim (eqb_tells t place) [
      | inl k ↦ none_some content (sym (ap content_of (ap (entry_at old) k.1 ∙ free)) ∙ h)
      | inr k ↦ ap content_of (puts.others t k.1) ∙ h
    ]

    users : (t : ℕ) → users_at new t ≡ users_at old t + one_at place t
    users t = elim (eqb_tells t place) [
      | inl k ↦
          let now : users_at new t ≡ 1 = ap users_of (ap (entry_at new) k.1 ∙ puts.there) ∙ one in
          let was : users_at old t ≡ 0 = ap users_of (ap (entry_at old) k.1 ∙ free) in
          let more : one_at place t ≡ 1 = ap (one_at place) k.1 ∙ one_there place in
          omega (arith, now, was, more)
      | inr k ↦
          let same : users_at new t ≡ users_at old t = ap users_of (puts.others t k.1) in
          let more : one_at place t ≡ 0 = one_elsewhere place t k.1 in
          omega (arith, same, more)
    ]

    fresh : (t : ℕ) → content_at old t ≡ None → is_kept new t ≡ true → 1 ≤ one_at place t
    fresh t h kept = elim (eqb_tells t place) [
      | inl k ↦ let more : one_at place t ≡ 1 = ap (one_at place) k.1 ∙ one_there place in omega (arith, more)
      | inr k ↦ let gone : is_kept new t ≡ false = ap is_some (ap content_of (puts.others t k.1) ∙ h) in absurd (cc)
    ]

pub unique_put : {C : Type 0} (old new : Entries C) (place : ℕ) (entry : Entry C) → Puts old place entry new → Unique old → Lacks old entry.content → Unique new
unique_put {C} old new place entry puts unique lacks = λ s t content h k. join s t content h k (eqb_tells s place) (eqb_tells t place)
  where
    here : (s : ℕ) (content : C) → s ≡ place → content_at new s ≡ Some content → entry.content ≡ content
    here s content e h = some_one (sym (ap content_of (ap (entry_at new) e ∙ puts.there)) ∙ h)
      where
        some_one : let a : Option C = Some entry.content in a ≡ Some content → entry.content ≡ content
        some_one e = cc

    there : (s : ℕ) (content : C) → s ≢ place → content_at new s ≡ Some content → content_at old s ≡ Some content
    there s content n h = sym (ap content_of (puts.others s n)) ∙ h

    join : (s t : ℕ) (content : C) → content_at new s ≡ Some content → content_at new t ≡ Some content
        → ((s == place) ≡ true) × (s ≡ place) ⊎ ((s == place) ≡ false) × (s ≢ place) → ((t == place) ≡ true) × (t ≡ place) ⊎ ((t == place) ≡ false) × (t ≢ place) → s ≡ t
    join s t content h k (inl a) (inl b) = a.1 ∙ sym b.1
    join s t content h k (inl a) (inr b) = absurd (lacks t (there t content b.1 k ∙ ap (λ z. Some z) (sym (here s content a.1 h))))
    join s t content h k (inr a) (inl b) = absurd (lacks s (there s content a.1 h ∙ ap (λ z. Some z) (sym (here t content b.1 k))))
    join s t content h k (inr a) (inr b) = unique s t content (there s content a.1 h) (there t content b.1 k)

pub indexed_put : {C : Type 0} (digest_of : C → ℕ) (old new : Entries C) (place : ℕ) (entry : Entry C) (was now : Index) → Puts old place entry new
    → ((d p : ℕ) → is_found was d p ≡ true → is_found now d p ≡ true) → is_found now (digest_of entry.content) place ≡ true → IsIndexed digest_of old was → IsIndexed digest_of new now
indexed_put {C} digest_of old new place entry was now puts more found indexed = λ t content h. elim (eqb_tells t place) [
  | inl k ↦
      let same : entry.content ≡ content = some_one content (sym (ap content_of (ap (entry_at new) k.1 ∙ puts.there)) ∙ h) in
      ap (λ c. is_found now (digest_of c) t) (sym same) ∙ ap (is_found now (digest_of entry.content)) k.1 ∙ found
  | inr k ↦ more (digest_of content) t (indexed t content (sym (ap content_of (puts.others t k.1)) ∙ h))
]
  where
    some_one : (content : C) → let a : Option C = Some entry.content in a ≡ Some content → entry.content ≡ content
    some_one content e = cc

pub indexed_more : {C : Type 0} (digest_of : C → ℕ) (old new : Entries C) (was now : Index) → new ≡ old → ((d p : ℕ) → is_found was d p ≡ true → is_found now d p ≡ true) → IsIndexed digest_of old was → IsIndexed digest_of new now
indexed_more {C} digest_of old new was now e more indexed = λ t content h. more (digest_of content) t (indexed t content (sym (ap (λ (es : Entries C). content_at es t) e) ∙ h))
