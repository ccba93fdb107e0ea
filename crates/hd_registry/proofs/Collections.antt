-- The collection, place by place.
use Rattle.std.proofs.Common.{◌≡◌, ◌≢◌, inl, inr, ℕ, ◌<◌, ◌+◌, suc, zero, Bool, true, false, cond, ◌==◌, List, [], ◌∷◌, ◌++◌, length, map, take, drop, get_or, get_or-set_other, get_or-set_same, Option, Some, None, zero-add, refl, sym, ◌∙◌, ap, arith}
use Rattle.std.proofs.Math.ListN.{set}
use Rattle.std.proofs.Math.Seq.{take-suc}
use Rattle.std.proofs.lemmas.List.Sums.{sum_by-append}
use Rattle.std.proofs.lemmas.Bool.Decides.{eqb_tells}
use Rattle.std.specs.List.{count_by}
use Rattle.hd_registry.specs.declared.content.Entry.{Entry}
use Rattle.hd_registry.specs.Entries.{Entries, entry_at, content_of, content_at, if_used, is_unused, Unique}
use Rattle.hd_registry.specs.inner.Indexes.{Index, is_found, IsIndexed}

map_step : {X : Type 0} (f : X → X) (xs : List X) (i : ℕ) (d : X) → i < length xs
    → set (map f (take i xs) ++ drop i xs) i (f (get_or (map f (take i xs) ++ drop i xs) i d)) ≡ map f (take (suc i) xs) ++ drop (suc i) xs
map_step f [] i d h = absurd (omega arith)
map_step f (x ∷ xs) zero d h = refl
map_step f (x ∷ xs) (suc i) d h = ap (λ t. f x ∷ t) (map_step f xs i d (omega arith))

pub map_step2 : {X : Type 0} (f : X → X) (xs now new : List X) (i : ℕ) (d : X) → i < length xs
    → now ≡ map f (take i xs) ++ drop i xs → new ≡ set now i (f (get_or now i d)) → new ≡ map f (take (suc i) xs) ++ drop (suc i) xs
map_step2 f xs now new i d h e g = g ∙ ap (λ z. set z i (f (get_or z i d))) e ∙ map_step f xs i d h

-- the place that comes next is as it was
pub next_as_before : {X : Type 0} (f : X → X) (xs : List X) (i : ℕ) (d : X) → get_or (map f (take i xs) ++ drop i xs) i d ≡ get_or xs i d
next_as_before f [] zero d = refl
next_as_before f [] (suc i) d = refl
next_as_before f (x ∷ xs) zero d = refl
next_as_before f (x ∷ xs) (suc i) d = next_as_before f xs i d

pub length_before : {X : Type 0} (f : X → X) (xs : List X) (i : ℕ) → length (map f (take i xs) ++ drop i xs) ≡ length xs
length_before f [] zero = refl
length_before f [] (suc i) = refl
length_before f (x ∷ xs) zero = refl
length_before f (x ∷ xs) (suc i) = ap suc (length_before f xs i)

-- so what is asked there is asked of the entry as it was
pub asked_before : {C : Type 0} (initial now : Entries C) (i : ℕ) (r : Bool) → r ≡ is_unused (entry_at now i) → now ≡ map if_used (take i initial) ++ drop i initial → r ≡ is_unused (get_or initial i None)
asked_before {C} initial now i r e h = e ∙ ap (λ (es : Entries C). is_unused (entry_at es i)) h ∙ ap is_unused (next_as_before if_used initial i None)

-- one more place is counted
pub count_step : {X : Type 0} (test : X → Bool) (xs : List X) (i : ℕ) (d : X) → i < length xs → count_by test (take (suc i) xs) ≡ count_by test (take i xs) + cond (test (get_or xs i d)) 1 0
count_step {X} test xs i d h =
    ap (λ (ys : List X). count_by test ys) (take-suc xs i d h) ∙ sum_by-append (λ (x : X). cond (test x) 1 0) (take i xs) (get_or xs i d ∷ [])
    ∙ ap (λ n. count_by test (take i xs) + n) (zero-add (cond (test (get_or xs i d)) 1 0))

-- a place that passes is counted, and another one is not
pub counted_one : (b c : Bool) (m n k : ℕ) → c ≡ b → c ≡ true → k ≡ m + 1 → n ≡ m + cond b 1 0 → k ≡ n
counted_one true c m n k e f g h = omega arith
counted_one false c m n k e f g h = absurd (cc)

pub counted_none : (b c : Bool) (m n k : ℕ) → c ≡ b → c ≡ false → k ≡ m → n ≡ m + cond b 1 0 → k ≡ n
counted_none true c m n k e f g h = absurd (cc)
counted_none false c m n k e f g h = omega arith

pub entry-if_used : {C : Type 0} (entries : Entries C) (t : ℕ) → entry_at (map if_used entries) t ≡ if_used (entry_at entries t)
entry-if_used [] t = refl
entry-if_used (e ∷ entries) zero = refl
entry-if_used (e ∷ entries) (suc t) = entry-if_used entries t

content_if_used : {C : Type 0} (o : Option (Entry C)) (content : C) → content_of (if_used o) ≡ Some content → content_of o ≡ Some content
content_if_used None content h = h
content_if_used {C} (Some entry) content h = by (entry.users == 0) h
  where
    by : (b : Bool) → content_of (cond b None (Some entry)) ≡ Some content → content_of (Some entry) ≡ Some content
    by true k = absurd (cc)
    by false k = k

pub unique_if_used : {C : Type 0} (entries new : Entries C) → new ≡ map if_used entries → Unique entries → Unique new
unique_if_used {C} entries new e unique = λ s t content h k. unique s t content (was s content h) (was t content k)
  where
    was : (s : ℕ) (content : C) → content_at new s ≡ Some content → content_at entries s ≡ Some content
    was s content h = content_if_used (entry_at entries s) content (sym (ap content_of (ap (λ (es : Entries C). entry_at es s) e ∙ entry-if_used entries s)) ∙ h)

-- a place is forgotten that has no entry any more
pub indexed_without : {C : Type 0} (digest_of : C → ℕ) (old new : Entries C) (place : ℕ) (was now : Index) → place < length old → new ≡ set old place None
    → ((d p : ℕ) → p ≢ place → is_found was d p ≡ true → is_found now d p ≡ true) → IsIndexed digest_of old was → IsIndexed digest_of new now
indexed_without {C} digest_of old new place was now within e kept indexed = λ t content h. elim (eqb_tells t place) [
  | inl k ↦ absurd (nothing content (sym (ap content_of (ap (λ (es : Entries C). entry_at es t) e ∙ ap (entry_at (set old place None)) k.1 ∙ get_or-set_same old place None None within)) ∙ h))
  | inr k ↦ kept (digest_of content) t k.1 (indexed t content (sym (ap content_of (ap (λ (es : Entries C). entry_at es t) e ∙ get_or-set_other old place t None None k.1)) ∙ h))
]
  where
    nothing : (content : C) → let none : Option C = None in none ≡ Some content → ⊥
    nothing content e = cc
