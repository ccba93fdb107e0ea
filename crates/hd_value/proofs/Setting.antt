-- What a value that is put into a level does to its map.
use Rattle.std.proofs.Common.{◌≡◌, ◌≢◌, ℕ, ◌-◌, length, get_or, take, drop, Bool, true, false, not, cond, if◌then◌else◌, List, [], ◌∷◌, ◌++◌, ◌&&◌, ◌⊎◌, inl, inr, Option, Some, None, Result, Ok, Err, OnOk, OnErr, refl, ap, sym, subst, ◌∙◌}
use Rattle.std.specs.Cmp.Lexicographic.{slice_cmp}
use Rattle.std.specs.List.{AllZip}
use Rattle.std.specs.declared.vec.Vec.{Vec}
use Rattle.std.specs.declared.alloc.Global.{Global}
use Rattle.std.proofs.lemmas.List.Elements.{same_from_all_zip}
use Rattle.std.specs.Ordering.{nat_cmp}
use Rattle.std.specs.FinMap.{get, empty, retain_keys, get-insert, get-retain_keys, get-empty, same_map}
use Rattle.hd_tokens.specs.Locators.{Locator}
use Rattle.hd_value.specs.declared.value.Value.{Value}
use Rattle.hd_value.specs.declared.container.Entry.{Entry}
use Rattle.hd_value.specs.declared.container.Source.{Source}
use Rattle.hd_value.specs.declared.container.Source.TheVariants.{Inner, Leaf}
use Rattle.hd_path.specs.Names.{is_same}
use Rattle.hd_path.specs.Paths.{is_prefix}
use Rattle.hd_path.proofs.NamePrefixes.{same_text, same_itself, and_true, slice_to_end}
use Rattle.hd_path.proofs.Logic.{true_is_not, false_is_not, some_is_not}
use Rattle.hd_value.specs.Maps.{Map, set_at, IsFree, IsPrefixFree}
use Rattle.hd_value.specs.inner.Entries.{source_at, entries_with, map_of_source, source_with, IsFilled, AreEntries, IsInner}
use Rattle.hd_value.specs.inner.Falls.{locators_total, locators_tie}
use Rattle.hd_value.proofs.Sorting.{source_at-placed, placed_entries}
use Rattle.hd_value.proofs.Getting.{eqk, eqk-cons, eqk_same, map_of, value_in, get-level, get-root, filled_at}

-- what a map answers after a value was put at a locator
abbrev pub after_set : Option Value → Locator → Value → Locator → Option Value
after_set old at v q = cond (eqk q at) (Some v) (cond (not (is_prefix at q)) old None)

pub get-set_at : (m : Map) (at : Locator) (v : Value) (q : Locator) → get (set_at m at v) q ≡ after_set (get m q) at v q
get-set_at m at v q =
    get-insert locators_total (retain_keys m (λ key. not (is_prefix at key))) at v q
    ∙ ap (cond (eqk q at) (Some v)) (get-retain_keys m (λ key. not (is_prefix at key)) q (λ x ties. ap (λ k. not (is_prefix at k)) (sym (locators_tie q x ties))))

-- a prefix of another locator leaves something of it
strict_prefix : (a b : Locator) → is_prefix a b ≡ true → eqk a b ≡ false → (rest : Locator) × (b ≡ a ++ rest) × (rest ≢ [])
strict_prefix [] [] p e = true_is_not e
strict_prefix [] (y ∷ b) p e = (y ∷ b, refl, λ none. cc)
strict_prefix (x ∷ a) [] p e = false_is_not p
strict_prefix (x ∷ a) (y ∷ b) p e =
    let both = and_true (is_same x y) (is_prefix a b) p in
    let apart : eqk a b ≡ false = ap (λ t. t && eqk a b) (sym both.0) ∙ sym (eqk-cons x y a b) ∙ e in
    let further = strict_prefix a b both.1 apart in
    (further.0, ap (λ w. w ∷ b) (sym (same_text x y both.0)) ∙ ap (λ t. x ∷ t) further.1, further.2)

-- a value above which none is leaves no key a prefix of another
prefix_free_set : (m : Map) (at : Locator) (v : Value) → IsPrefixFree m → IsFree m at → IsPrefixFree (set_at m at v)
prefix_free_set m at v apart free a b some_a some_b p =
    elim (eqk a at) as (λ t. eqk a at ≡ t → a ≡ b) [
      | true ↦ λ is_a. elim (eqk b at) as (λ t. eqk b at ≡ t → a ≡ b) [
        | true ↦ λ is_b. eqk_same a at is_a ∙ sym (eqk_same b at is_b)
        | false ↦ λ not_b. absurd (some_b (covered not_b (subst (λ (w : Locator). is_prefix w b ≡ true) (eqk_same a at is_a) p)))
      ] refl
      | false ↦ λ not_a. elim (eqk b at) as (λ t. eqk b at ≡ t → a ≡ b) [
        | true ↦ λ is_b.
            let above = strict_prefix a at (subst (λ (w : Locator). is_prefix a w ≡ true) (eqk_same b at is_b) p) not_a in
            absurd (some_a (gone a not_a (free a above.0 above.1 above.2)))
        | false ↦ λ not_b. apart a b (λ none. some_a (gone a not_a none)) (λ none. some_b (gone b not_b none)) p
      ] refl
    ] refl
  where
    neither : (t : Bool) → ◌≡◌ {A = Option Value} (cond t None None) None
    neither true = refl
    neither false = refl

    gone : (q : Locator) → eqk q at ≡ false → get m q ≡ None → get (set_at m at v) q ≡ None
    gone q other none =
        get-set_at m at v q
        ∙ ap (λ t. cond t (Some v) (cond (not (is_prefix at q)) (get m q) None)) other
        ∙ ap (λ o. cond (not (is_prefix at q)) o None) none
        ∙ neither (not (is_prefix at q))

    covered : eqk b at ≡ false → is_prefix at b ≡ true → get (set_at m at v) b ≡ None
    covered other under =
        get-set_at m at v b
        ∙ ap (λ t. cond t (Some v) (cond (not (is_prefix at b)) (get m b) None)) other
        ∙ ap (λ t. cond (not t) (get m b) None) under

-- the map after a value was put is one that may be inside another
pub set_at_inner : (m : Map) (u : List ℕ) (at : Locator) (v : Value) → get m [] ≡ None → IsPrefixFree m → IsFree m (u ∷ at) → IsInner (set_at m (u ∷ at) v)
set_at_inner m u at v root apart free = record {
  filled = λ none. some_is_not v (sym (there ∙ ap (λ b. cond b (Some v) (cond (not (is_prefix (u ∷ at) (u ∷ at))) (get m (u ∷ at)) None)) (eqk_itself (u ∷ at))) ∙ ap (λ n. get n (u ∷ at)) none ∙ get-empty (slice_cmp (slice_cmp nat_cmp)) (u ∷ at));
  rootless = get-set_at m (u ∷ at) v [] ∙ root;
  prefix_free = prefix_free_set m (u ∷ at) v apart free;
}
  where
    there : get (set_at m (u ∷ at) v) (u ∷ at) ≡ after_set (get m (u ∷ at)) (u ∷ at) v (u ∷ at)
    there = get-set_at m (u ∷ at) v (u ∷ at)

    eqk_itself : (q : Locator) → eqk q q ≡ true
    eqk_itself [] = refl
    eqk_itself (x ∷ q) = eqk-cons x x q q ∙ ap (λ b. b && eqk q q) (same_itself x) ∙ eqk_itself q

pub same_turned : (x y : List ℕ) → is_same x y ≡ is_same y x
same_turned x y =
    elim (is_same x y) as (λ b. is_same x y ≡ b → b ≡ is_same y x) [
      | true ↦ λ same. subst (λ (w : List ℕ). true ≡ is_same w x) (same_text x y same) (sym (same_itself x))
      | false ↦ λ apart. elim (is_same y x) as (λ b. is_same y x ≡ b → false ≡ b) [
        | true ↦ λ same. sym apart ∙ subst (λ (w : List ℕ). is_same w y ≡ true) (same_text y x same) (same_itself y)
        | false ↦ λ _. refl
      ] refl
    ] refl

-- a source answers as the one before it, but for the value that was put into it
abbrev pub IsSetIn : Option Source → Locator → Value → Source → Type 0
IsSetIn old at v s = (q : Locator) → value_in (Some s) q ≡ after_set (value_in old q) at v q

pub set_level : (es : List Entry) (t : List ℕ) (at : Locator) (v : Value) (s : Source) → AreEntries es → IsFilled s → IsSetIn (source_at t es) at v s → map_of (entries_with t s es) ≡ set_at (map_of es) (t ∷ at) v
set_level es t at v s h f puts = same_map locators_total locators_tie (map_of (entries_with t s es)) (set_at (map_of es) (t ∷ at) v) answers
  where
    answers : (q : Locator) → get (map_of (entries_with t s es)) q ≡ get (set_at (map_of es) (t ∷ at) v) q
    answers [] = get-root (entries_with t s es) ∙ sym (get-set_at (map_of es) (t ∷ at) v [] ∙ get-root es)
    answers (u ∷ q) =
        get-level u q (entries_with t s es) (placed_entries t s es h f)
        ∙ ap (λ o. value_in o q) (source_at-placed t s u es)
        ∙ elim (is_same u t) as (λ b. is_same u t ≡ b → value_in (if b then Some s else source_at u es) q ≡ cond (b && eqk q at) (Some v) (cond (not (b && is_prefix at q)) (value_in (source_at u es) q) None)) [
          | true ↦ λ same. puts q ∙ ap (λ o. after_set (value_in o q) at v q) (ap (λ w. source_at w es) (sym (same_text u t same)))
          | false ↦ λ _. refl
        ] refl
        ∙ ap (λ b. cond (is_same u t && eqk q at) (Some v) (cond (not (b && is_prefix at q)) (value_in (source_at u es) q) None)) (same_turned u t)
        ∙ ap (λ b. cond b (Some v) (cond (not (is_prefix (t ∷ at) (u ∷ q))) (value_in (source_at u es) q) None)) (sym (eqk-cons u t q at))
        ∙ ap (λ o. after_set o (t ∷ at) v (u ∷ q)) (sym (get-level u q es h))
        ∙ sym (get-set_at (map_of es) (t ∷ at) v (u ∷ q))

-- the value itself
pub set_leaf : (old : Option Source) (v : Value) → IsSetIn old [] v (Leaf v)
set_leaf old v [] = refl
set_leaf old v (u ∷ q) = refl

-- a container with the value in it
pub set_inner : (n : Map) (at : Locator) (v : Value) → IsSetIn (Some (Inner n)) at v (Inner (set_at n at v))
set_inner n at v q = get-set_at n at v q

pub set_new : (at : Locator) (v : Value) → IsSetIn None at v (Inner (set_at empty at v))
set_new at v q = get-set_at empty at v q ∙ ap (λ o. after_set o at v q) (get-empty (slice_cmp (slice_cmp nat_cmp)) q)

-- no leaf is above a locator that is free
pub free_inner : (es : List Entry) (t : List ℕ) (n : Map) (at : Locator) → AreEntries es → source_at t es ≡ Some (Inner n) → IsFree (map_of es) (t ∷ at) → IsFree n at
free_inner es t n at h is free front rest e some =
    ap (λ o. value_in o front) (sym is) ∙ sym (get-level t front es h) ∙ free (t ∷ front) rest (ap (λ xs. t ∷ xs) e) some

pub free_leaf : (es : List Entry) (t : List ℕ) (v : Value) (u : List ℕ) (at : Locator) → AreEntries es → source_at t es ≡ Some (Leaf v) → IsFree (map_of es) (t ∷ u ∷ at) → ⊥
free_leaf es t v u at h is free =
    some_is_not v (ap (λ o. value_in o []) (sym is) ∙ sym (get-level t [] es h) ∙ free (t ∷ []) (u ∷ at) refl (λ none. cc))

pub free_empty : (at : Locator) → IsFree empty at
free_empty at front rest e some = get-empty (slice_cmp (slice_cmp nat_cmp)) front

pub prefix_free_empty : (m : Map) → m ≡ empty → IsPrefixFree m
prefix_free_empty m is a b some_a some_b p = absurd (some_a (ap (λ k. get k a) is ∙ get-empty (slice_cmp (slice_cmp nat_cmp)) a))

-- what was put at a token is not empty
pub filled_with : (es : List Entry) (t : List ℕ) (at : Locator) (v : Value) → AreEntries es → IsFree (map_of es) (t ∷ at) → IsFilled (source_with (source_at t es) at v)
filled_with es t [] v h free = tt
filled_with es t (u ∷ at) v h free = by_source (source_at t es) refl
  where
    anew : IsInner (set_at empty (u ∷ at) v)
    anew = set_at_inner empty u at v (get-empty (slice_cmp (slice_cmp nat_cmp)) []) (prefix_free_empty empty refl) (free_empty (u ∷ at))

    by_source : (o : Option Source) → source_at t es ≡ o → IsFilled (source_with o (u ∷ at) v)
    by_source None is = anew
    by_source (Some (Leaf w)) is = anew
    by_source (Some (Inner n)) is =
        let inner : IsInner n = filled_at t es (Inner n) h is in
        set_at_inner n u at v inner.rootless inner.prefix_free (free_inner es t n (u ∷ at) h is free)

-- a value that was put into a level
pub set_in_level : (es : List Entry) (t : List ℕ) (at : Locator) (v : Value) → AreEntries es → IsFree (map_of es) (t ∷ at) → map_of (entries_with t (source_with (source_at t es) at v) es) ≡ set_at (map_of es) (t ∷ at) v
set_in_level es t [] v h free = set_level es t [] v (Leaf v) h tt (set_leaf (source_at t es) v)
set_in_level es t (u ∷ at) v h free = set_level es t (u ∷ at) v (source_with (source_at t es) (u ∷ at) v) h (filled_with es t (u ∷ at) v h free) (answers (source_at t es) refl)
  where
    answers : (o : Option Source) → source_at t es ≡ o → IsSetIn o (u ∷ at) v (source_with o (u ∷ at) v)
    answers None is = set_new (u ∷ at) v
    answers (Some (Inner n)) is = set_inner n (u ∷ at) v
    answers (Some (Leaf w)) is = absurd (free_leaf es t w u at h is free)

-- a value alone in a level
pub alone_entries : (t : List ℕ) (at : Locator) (v : Value) → AreEntries (record { token = t; source = source_with None at v } ∷ [])
alone_entries t at v = (filled_with [] t at v tt (free_empty (t ∷ at)), tt, tt)

pub alone_level : (t : List ℕ) (at : Locator) (v : Value) → map_of (record { token = t; source = source_with None at v } ∷ []) ≡ set_at empty (t ∷ at) v
alone_level t at v = set_in_level [] t at v tt (free_empty (t ∷ at))

-- a value is free to be put into what is at the first token
pub free_within : (es : List Entry) (t : List ℕ) (at : Locator) (o : Option Source) → AreEntries es → source_at t es ≡ o → IsFree (map_of es) (t ∷ at) → IsFree (map_of_source o) at
free_within es t at None h is free = free_empty at
free_within es t at (Some (Leaf v)) h is free = free_empty at
free_within es t at (Some (Inner n)) h is free = free_inner es t n at h is free

-- the entries after a call that put a source, or was refused
pub put_entries : {E : Type 0} (r : Result (Unit {0}) E) (t : List ℕ) (s : Source) (old new : List Entry) → AreEntries old → IsFilled s → OnOk r (new ≡ entries_with t s old) → OnErr r (new ≡ old) → AreEntries new
put_entries (Ok u) t s old new h f put kept = subst AreEntries (sym put) (placed_entries t s old h f)
put_entries (Err e) t s old new h f put kept = subst AreEntries (sym kept) h

-- entries that are the same ones, or clones of them
pub cloned_items : {P : Type 0} (v w : Vec Entry Global) → (w ≡ v) ⊎ (AllZip (λ e f. f ≡ e) v.items w.items × P) → w.items ≡ v.items
cloned_items v w (inl same) = ap (λ x. x.items) same
cloned_items v w (inr clones) = same_from_all_zip (λ e f. f ≡ e) v.items w.items clones.0 (λ e f is. is)

-- a locator that is not empty, by its first token and what is left
pub named_by : (at tokens : Locator) (first : List ℕ) → tokens ≡ at → at ≢ [] → first ≡ get_or tokens 0 first → first ∷ take (length tokens - 1) (drop 1 tokens) ≡ at
named_by at [] first same some is = absurd (some (sym same))
named_by at (t ∷ tokens) first same some is = ap (λ ts. first ∷ ts) (slice_to_end (t ∷ tokens) 1) ∙ ap (λ w. w ∷ tokens) is ∙ same
