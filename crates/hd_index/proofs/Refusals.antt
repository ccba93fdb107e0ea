-- What is left after a synchronization that was refused.
use Rattle.std.proofs.Common.{◌≡◌, ℕ, ◌+◌, ◌≤◌, Bool, true, false, cond, ◌==◌, List, [], ◌∷◌, ◌++◌, length, take, drop, All, Option, Some, None, is_some, refl, sym, ◌∙◌, ap, subst, arith}
use Rattle.std.proofs.lemmas.Bool.{eqb-true}
use Rattle.hd_registry.specs.declared.content.Entry.{Entry}
use Rattle.hd_registry.specs.Entries.{Entries, entry_at, content_of, users_of, if_used, Extends, Collects}
use Rattle.hd_rprim.specs.declared.buffer.Buffer.{Buffer}
use Rattle.hd_index.specs.Index.{EachIsUsed, HasSameEntries}

-- an entry without users goes, and one with users stays
unused_goes : (o : Option (Entry Buffer)) → users_of o ≡ 0 → if_used o ≡ None
unused_goes None none = refl
unused_goes (Some entry) none = ap (λ n. cond (n == 0) None (Some entry)) none

used_stays : (entry : Entry Buffer) → 1 ≤ entry.users → if_used (Some entry) ≡ Some entry
used_stays entry used = by (entry.users == 0) refl
  where
    by : (b : Bool) → (entry.users == 0) ≡ b → cond b None (Some entry) ≡ Some entry
    by true none = let unused : entry.users ≡ 0 = eqb-true entry.users 0 none in absurd (omega arith)
    by false some = refl

same_entry : (a b : Entry Buffer) → a.content ≡ b.content → a.users ≡ b.users → ◌≡◌ {A = Option (Entry Buffer)} (Some a) (Some b)
same_entry a b content users = λ i. Some (record { content = content i; users = users i })

entry_stays : (old middle : Option (Entry Buffer)) → (is_some (content_of old) ≡ true → 1 ≤ users_of old)
    → ((content : Buffer) → content_of old ≡ Some content → content_of middle ≡ Some content) → users_of middle ≡ users_of old + 0
    → if_used middle ≡ old
entry_stays None middle used contents users = unused_goes middle (omega (arith, users))
entry_stays (Some entry) None used contents users = absurd (nothing (contents entry.content refl))
  where
    nothing : None ≡ Some entry.content → ⊥
    nothing e = cc
entry_stays (Some entry) (Some now) used contents users =
    let many : 1 ≤ entry.users = used refl in
    let same : now.users ≡ entry.users = omega (arith, users) in
    let content : Some now.content ≡ Some entry.content = contents entry.content refl in
    used_stays now (omega arith) ∙ same_entry now entry (cc) same

same_entries : (old middle new : Entries Buffer) → EachIsUsed old → Extends old middle (λ _. 0) → Collects middle new → HasSameEntries old new
same_entries old middle new used extends collects = λ slot. collects slot ∙ entry_stays (entry_at old slot) (entry_at middle slot) (used slot) (extends.contents slot) (extends.users slot)

pub refused_same : (old taken middle new : Entries Buffer) → taken ≡ old → EachIsUsed old → Extends taken middle (λ _. 0) → Collects middle new → HasSameEntries old new
refused_same old taken middle new same used extends collects = same_entries old middle new used (subst (λ (es : Entries Buffer). Extends es middle (λ _. 0)) same extends) collects

written_whole : {X : Type 0} (new old : List X) → length new ≡ length old → take (length old) (new ++ drop (length new) old) ≡ new
written_whole [] [] same = refl
written_whole [] (y ∷ old) same = absurd (cc)
written_whole (x ∷ new) [] same = absurd (cc)
written_whole (x ∷ new) (y ∷ old) same = ap (λ xs. x ∷ xs) (written_whole new old (omega arith))

-- what holds of each item that was written over all of a list
pub all_written : {X : Type 0} (P : X → Type 0) (n : ℕ) (new old : List X) → n ≡ length old → length new ≡ length old → All P new → All P (take n (new ++ drop (length new) old))
all_written {X} P n new old count same all = subst (All P) (sym (ap (λ k. take k (new ++ drop (length new) old)) count ∙ written_whole new old same)) all
