-- What the map of two merged levels answers.
use Rattle.std.proofs.Common.{◌≡◌, ◌≢◌, ℕ, Bool, true, false, not, cond, if◌then◌else◌, map, List, [], ◌∷◌, ◌++◌, ◌&&◌, ◌||◌, Option, Some, None, zero, suc, ◌+◌, ◌*◌, ◌<◌, ◌≤◌, length, get_or, drop, drop-cons, arith, refl, ap, sym, subst, ◌∙◌}
use Rattle.std.proofs.lemmas.List.{drop_all}
use Rattle.std.specs.declared.cmp.Ordering.TheVariants.{Less, Equal, Greater}
use Rattle.std.specs.Cmp.Lexicographic.{slice_cmp}
use Rattle.std.specs.Ordering.{nat_cmp}
use Rattle.std.specs.FinMap.{entries, from_entries, keys, get, empty, retain_keys, entries-insert, get-entries, get-from_entries, get-retain_keys, get-empty, same_map}
use Rattle.std.specs.FinMap.Entries.{put, by_order}
use Rattle.std.proofs.Math.Bool.{or-true}
use Rattle.hd_tokens.specs.Locators.{Locator}
use Rattle.hd_value.specs.declared.value.Value.{Value}
use Rattle.hd_value.specs.declared.container.Entry.{Entry}
use Rattle.hd_value.specs.declared.container.Source.{Source}
use Rattle.hd_value.specs.declared.container.Source.TheVariants.{Inner, Leaf}
use Rattle.hd_value.specs.Locators.{intersects}
use Rattle.hd_path.specs.Names.{is_same}
use Rattle.hd_path.specs.Paths.{is_prefix}
use Rattle.hd_path.proofs.NamePrefixes.{same_text, same_itself, or_false}
use Rattle.hd_path.proofs.Logic.{true_is_not, some_is_not}
use Rattle.hd_value.specs.LocatorSets.{LocatorSet, touches}
use Rattle.hd_value.specs.Maps.{Map, overlaid_at, IsPrefixFree}
use Rattle.hd_value.specs.Levels.{values_at, values_of}
use Rattle.hd_value.specs.inner.Entries.{source_at, IsFilled, AreEntries, IsInner}
use Rattle.hd_value.specs.inner.Overlays.{merged_source, merged_at, overlaid_on, IsOver}
use Rattle.hd_value.specs.inner.Depths.{longest, depth}
use Rattle.hd_value.specs.inner.Falls.{locators_total, locators_tie, entries_exist, longest-from_entries, longest-append, longest-under}
use Rattle.hd_value.proofs.Prefixes.{intersects_turned}
use Rattle.hd_value.proofs.Getting.{eqk, eqk-cons, eqk_same, seek, seek-append, or_else, map_of, value_in, get-level, get-root, filled_at}
use Rattle.hd_value.proofs.Sorting.{none_before}
use Rattle.hd_value.proofs.Setting.{same_turned}
use Rattle.hd_value.proofs.Inserting.{touches-append}

-- the locators of some entries
abbrev pub ats : List (Locator × Value) → LocatorSet
ats es = map (λ e. e.0) es

ats-append : (xs ys : List (Locator × Value)) → ats (xs ++ ys) ≡ ats xs ++ ats ys
ats-append [] ys = refl
ats-append (x ∷ xs) ys = ap (λ t. x.0 ∷ t) (ats-append xs ys)

or_swap : (a b c : Bool) → (a || (b || c)) ≡ (b || (a || c))
or_swap true true c = refl
or_swap true false c = refl
or_swap false true c = refl
or_swap false false c = refl

or_again : (a b : Bool) → (a || b) ≡ (a || (a || b))
or_again true b = refl
or_again false b = refl

touches-put : (k : Locator) (v : Value) (es : List (Locator × Value)) (q : Locator) → touches (ats (put (slice_cmp (slice_cmp nat_cmp)) k v es)) q ≡ (intersects k q || touches (ats es) q)
touches-put k v [] q = refl
touches-put k v (e ∷ es) q =
    elim (slice_cmp (slice_cmp nat_cmp) k e.0) as (λ r. slice_cmp (slice_cmp nat_cmp) k e.0 ≡ r → touches (ats (by_order r ((k, v) ∷ e ∷ es) ((e.0, v) ∷ es) (e ∷ put (slice_cmp (slice_cmp nat_cmp)) k v es))) q ≡ (intersects k q || (intersects e.0 q || touches (ats es) q))) [
      | Less ↦ λ _. refl
      | Equal ↦ λ is. or_again (intersects e.0 q) (touches (ats es) q) ∙ ap (λ w. intersects w q || (intersects e.0 q || touches (ats es) q)) (sym (locators_tie k e.0 is))
      | Greater ↦ λ _. ap (λ t. intersects e.0 q || t) (touches-put k v es q) ∙ or_swap (intersects e.0 q) (intersects k q) (touches (ats es) q)
    ] refl

touches-empty : (q : Locator) → touches (keys (empty {X = Value} {R = slice_cmp (slice_cmp nat_cmp)})) q ≡ false
touches-empty q = none (entries empty) (λ k. sym (get-entries empty k) ∙ get-empty (slice_cmp (slice_cmp nat_cmp)) k)
  where
    eqk_itself : (q : Locator) → eqk q q ≡ true
    eqk_itself [] = refl
    eqk_itself (x ∷ q) = eqk-cons x x q q ∙ ap (λ b. b && eqk q q) (same_itself x) ∙ eqk_itself q

    none : (es : List (Locator × Value)) → ((k : Locator) → seek k es ≡ None) → touches (ats es) q ≡ false
    none [] h = refl
    none (e ∷ es) h = some_is_not e.1 (ap (λ b. cond b (Some e.1) (seek e.0 es)) (sym (eqk_itself e.0)) ∙ h e.0)

touches-from_entries : (es : List (Locator × Value)) (q : Locator) → touches (keys (from_entries {R = slice_cmp (slice_cmp nat_cmp)} es)) q ≡ touches (ats es) q
touches-from_entries [] q = touches-empty q
touches-from_entries (e ∷ es) q =
    ap (λ xs. touches (ats xs) q) (entries-insert locators_total (from_entries es) e.0 e.1)
    ∙ touches-put e.0 e.1 (entries (from_entries {R = slice_cmp (slice_cmp nat_cmp)} es)) q
    ∙ ap (λ t. intersects e.0 q || t) (touches-from_entries es q)

-- whether a value of a source intersects what is left of a locator
abbrev pub touched_in : Option Source → Locator → Bool
touched_in None q = false
touched_in (Some (Leaf v)) q = true
touched_in (Some (Inner m)) q = touches (keys m) q

intersects-cons : (x y : List ℕ) (a b : Locator) → intersects (x ∷ a) (y ∷ b) ≡ (is_same y x && intersects a b)
intersects-cons x y a b =
    ap (λ t. (t && is_prefix a b) || (is_same y x && is_prefix b a)) (same_turned x y)
    ∙ elim (is_same y x) as (λ t. ((t && is_prefix a b) || (t && is_prefix b a)) ≡ (t && intersects a b)) [ true ↦ refl | false ↦ refl ]

touches-under : (u t : List ℕ) (q : Locator) (es : List (Locator × Value)) → touches (ats (map (λ e. (u ∷ e.0, e.1)) es)) (t ∷ q) ≡ (is_same t u && touches (ats es) q)
touches-under u t q [] = elim (is_same t u) as (λ b. false ≡ (b && false)) [ true ↦ refl | false ↦ refl ]
touches-under u t q (e ∷ es) =
    ap (λ b. b || touches (ats (map (λ e. (u ∷ e.0, e.1)) es)) (t ∷ q)) (intersects-cons u t e.0 q)
    ∙ ap (λ b. (is_same t u && intersects e.0 q) || b) (touches-under u t q es)
    ∙ elim (is_same t u) as (λ b. ((b && intersects e.0 q) || (b && touches (ats es) q)) ≡ (b && (intersects e.0 q || touches (ats es) q))) [ true ↦ refl | false ↦ refl ]

touches-values_at : (u t : List ℕ) (q : Locator) (s : Source) → touches (ats (values_at u s)) (t ∷ q) ≡ (is_same t u && touched_in (Some s) q)
touches-values_at u t q (Leaf v) = ap (λ b. b || false) (intersects-cons u t [] q) ∙ elim (is_same t u) as (λ b. ((b && true) || false) ≡ (b && true)) [ true ↦ refl | false ↦ refl ]
touches-values_at u t q (Inner m) = touches-under u t q (entries m)

touches-values_of : (t : List ℕ) (q : Locator) (es : List Entry) → AreEntries es → touches (ats (values_of es)) (t ∷ q) ≡ touched_in (source_at t es) q
touches-values_of t q [] h = refl
touches-values_of t q (e ∷ es) h =
    ap (λ xs. touches xs (t ∷ q)) (ats-append (values_at e.token e.source) (values_of es))
    ∙ touches-append (ats (values_at e.token e.source)) (ats (values_of es)) (t ∷ q)
    ∙ ap (λ b. b || touches (ats (values_of es)) (t ∷ q)) (touches-values_at e.token t q e.source)
    ∙ ap (λ b. (is_same t e.token && touched_in (Some e.source) q) || b) (touches-values_of t q es h.2)
    ∙ elim (is_same t e.token) as (λ b. is_same t e.token ≡ b → ((b && touched_in (Some e.source) q) || touched_in (source_at t es) q) ≡ touched_in (if b then Some e.source else source_at t es) q) [
      | true ↦ λ same.
          let gone : source_at t es ≡ None = subst (λ (w : List ℕ). source_at w es ≡ None) (sym (same_text t e.token same)) (none_before e.token es h.1) in
          ap (λ o. touched_in (Some e.source) q || touched_in o q) gone ∙ or_none (touched_in (Some e.source) q)
      | false ↦ λ _. refl
    ] refl
  where
    or_none : (a : Bool) → (a || false) ≡ a
    or_none true = refl
    or_none false = refl

pub touches-level : (t : List ℕ) (q : Locator) (es : List Entry) → AreEntries es → touches (keys (map_of es)) (t ∷ q) ≡ touched_in (source_at t es) q
touches-level t q es h = touches-from_entries (values_of es) (t ∷ q) ∙ touches-values_of t q es h

-- what does not intersect a map has no value in it
eqk_intersects : (q k : Locator) → eqk q k ≡ true → intersects k q ≡ true
eqk_intersects [] [] e = refl
eqk_intersects [] (y ∷ k) e = cc
eqk_intersects (x ∷ q) [] e = cc
eqk_intersects (x ∷ q) (y ∷ k) e =
    intersects-cons y x k q
    ∙ elim (is_same x y) as (λ b. (b && eqk q k) ≡ true → (b && intersects k q) ≡ true) [ true ↦ λ r. eqk_intersects q k r | false ↦ λ r. r ] (sym (eqk-cons x y q k) ∙ e)

untouched_list : (es : List (Locator × Value)) (q : Locator) → touches (ats es) q ≡ false → seek q es ≡ None
untouched_list [] q h = refl
untouched_list (e ∷ es) q h =
    let apart = or_false (intersects e.0 q) (touches (ats es) q) h in
    elim (eqk q e.0) as (λ b. eqk q e.0 ≡ b → cond b (Some e.1) (seek q es) ≡ None) [
      | true ↦ λ same. true_is_not (sym (eqk_intersects q e.0 same) ∙ apart.0)
      | false ↦ λ _. untouched_list es q apart.1
    ] refl

pub untouched : (m : Map) (q : Locator) → touches (keys m) q ≡ false → get m q ≡ None
untouched m q h = get-entries m q ∙ untouched_list (entries m) q h

-- a map over another one
pub get-overlaid_on : (m n : Map) (q : Locator) → get (overlaid_on m n) q ≡ (if touches (keys m) q then get m q else get n q)
get-overlaid_on m n q =
    get-from_entries locators_total (entries m ++ entries (retain_keys n (λ key. not (touches (keys m) key)))) q
    ∙ seek-append q (entries m) (entries (retain_keys n (λ key. not (touches (keys m) key))))
    ∙ ap (λ o. or_else o (seek q (entries (retain_keys n (λ key. not (touches (keys m) key)))))) (sym (get-entries m q))
    ∙ ap (or_else (get m q)) (sym (get-entries (retain_keys n (λ key. not (touches (keys m) key))) q) ∙ get-retain_keys n (λ key. not (touches (keys m) key)) q (λ x ties. ap (λ k. not (touches (keys m) k)) (sym (locators_tie q x ties))))
    ∙ elim (touches (keys m) q) as (λ b. touches (keys m) q ≡ b → or_else (get m q) (cond (not b) (get n q) None) ≡ (if b then get m q else get n q)) [
      | true ↦ λ _. or_nothing (get m q)
      | false ↦ λ apart. ap (λ o. or_else o (get n q)) (untouched m q apart)
    ] refl
  where
    or_nothing : (o : Option Value) → or_else o None ≡ o
    or_nothing None = refl
    or_nothing (Some v) = refl

-- what begins with a key, or a key with it, intersects the map
key_touches_list : (es : List (Locator × Value)) (k q : Locator) → seek k es ≢ None → intersects k q ≡ true → touches (ats es) q ≡ true
key_touches_list [] k q some meets = absurd (some refl)
key_touches_list (e ∷ es) k q some meets =
    elim (eqk k e.0) as (λ b. eqk k e.0 ≡ b → (intersects e.0 q || touches (ats es) q) ≡ true) [
      | true ↦ λ same. ap (λ b. b || touches (ats es) q) (subst (λ (w : Locator). intersects w q ≡ true) (eqk_same k e.0 same) meets)
      | false ↦ λ other. ap (λ b. intersects e.0 q || b) (key_touches_list es k q (λ none. some (ap (λ b. cond b (Some e.1) (seek k es)) other ∙ none)) meets) ∙ or-true (intersects e.0 q)
    ] refl

key_touches : (m : Map) (k q : Locator) → get m k ≢ None → intersects k q ≡ true → touches (keys m) q ≡ true
key_touches m k q some meets = key_touches_list (entries m) k q (λ none. some (get-entries m k ∙ none)) meets

prefix_free_overlaid : (m n : Map) → IsPrefixFree m → IsPrefixFree n → IsPrefixFree (overlaid_on m n)
prefix_free_overlaid m n first second a b some_a some_b p =
    elim (touches (keys m) a) as (λ t. touches (keys m) a ≡ t → a ≡ b) [
      | true ↦ λ near_a.
          let in_a : get m a ≢ None = λ none. some_a (answer a true near_a ∙ none) in
          let near_b : touches (keys m) b ≡ true = key_touches m a b in_a meet in
          first a b in_a (λ none. some_b (answer b true near_b ∙ none)) p
      | false ↦ λ far_a. elim (touches (keys m) b) as (λ t. touches (keys m) b ≡ t → a ≡ b) [
        | true ↦ λ near_b.
            let in_b : get m b ≢ None = λ none. some_b (answer b true near_b ∙ none) in
            true_is_not (sym (key_touches m b a in_b (intersects_turned b a ∙ meet)) ∙ far_a)
        | false ↦ λ far_b. second a b (λ none. some_a (answer a false far_a ∙ none)) (λ none. some_b (answer b false far_b ∙ none)) p
      ] refl
    ] refl
  where
    meet : intersects a b ≡ true
    meet = ap (λ t. t || is_prefix b a) p

    answer : (q : Locator) (near : Bool) → touches (keys m) q ≡ near → get (overlaid_on m n) q ≡ (if near then get m q else get n q)
    answer q near is = get-overlaid_on m n q ∙ ap (λ t. if t then get m q else get n q) is

touches_all : (m : Map) → m ≢ empty → touches (keys m) [] ≡ true
touches_all m some = first (entries m) (entries_exist m some)
  where
    first : (es : List (Locator × Value)) → es ≢ [] → touches (ats es) [] ≡ true
    first [] h = absurd (h refl)
    first (e ∷ es) h = ap (λ b. b || touches (ats es) []) (everything e.0)
      where
        everything : (k : Locator) → intersects k [] ≡ true
        everything [] = refl
        everything (x ∷ k) = refl

value_merged : (o p : Option Source) → ((s : Source) → o ≡ Some s → IsFilled s) → (q : Locator) → value_in (merged_at o p) q ≡ (if touched_in o q then value_in o q else value_in p q)
value_merged None p h q = refl
value_merged (Some (Leaf v)) None h q = refl
value_merged (Some (Leaf v)) (Some r) h q = refl
value_merged (Some (Inner m)) (Some (Inner n)) h q = get-overlaid_on m n q
value_merged (Some (Inner m)) None h q =
    elim (touches (keys m) q) as (λ b. touches (keys m) q ≡ b → get m q ≡ (if b then get m q else None)) [ true ↦ λ _. refl | false ↦ λ apart. untouched m q apart ] refl
value_merged (Some (Inner m)) (Some (Leaf v)) h [] =
    let inner : IsInner m = h (Inner m) refl in
    ap (λ b. if b then get m [] else Some v) (sym (touches_all m inner.filled))
value_merged (Some (Inner m)) (Some (Leaf v)) h (u ∷ q) =
    elim (touches (keys m) (u ∷ q)) as (λ b. touches (keys m) (u ∷ q) ≡ b → get m (u ∷ q) ≡ (if b then get m (u ∷ q) else None)) [ true ↦ λ _. refl | false ↦ λ apart. untouched m (u ∷ q) apart ] refl

pub merged_filled : (s r : Source) → IsFilled s → IsFilled r → IsFilled (merged_source s r)
merged_filled (Leaf v) r h g = tt
merged_filled (Inner m) (Leaf v) h g = h
merged_filled (Inner m) (Inner n) h g = record {
  filled = λ none. true_is_not (sym (touches_all m h.filled) ∙ sym (more [] (touches_all m h.filled)) ∙ ap (λ k. touches (keys k) []) none ∙ touches-empty []);
  rootless = get-overlaid_on m n [] ∙ ap (λ b. if b then get m [] else get n []) (touches_all m h.filled) ∙ h.rootless;
  prefix_free = prefix_free_overlaid m n h.prefix_free g.prefix_free;
}
  where
    more : (q : Locator) → touches (keys m) q ≡ true → touches (keys (overlaid_on m n)) q ≡ touches (keys m) q
    more q e =
        touches-from_entries (entries m ++ entries (retain_keys n (λ key. not (touches (keys m) key)))) q
        ∙ ap (λ xs. touches xs q) (ats-append (entries m) (entries (retain_keys n (λ key. not (touches (keys m) key)))))
        ∙ touches-append (keys m) (keys (retain_keys n (λ key. not (touches (keys m) key)))) q
        ∙ ap (λ b. b || touches (keys (retain_keys n (λ key. not (touches (keys m) key)))) q) e
        ∙ sym e

-- the map of a level over another one
pub merged_level : (es fs all : List Entry) → AreEntries es → AreEntries fs → IsOver es fs all → map_of all ≡ overlaid_on (map_of es) (map_of fs)
merged_level es fs all h g laid = same_map locators_total locators_tie (map_of all) (overlaid_on (map_of es) (map_of fs)) answers
  where
    neither : (b : Bool) → ◌≡◌ {A = Option Value} None (if b then None else None)
    neither true = refl
    neither false = refl

    answers : (q : Locator) → get (map_of all) q ≡ get (overlaid_on (map_of es) (map_of fs)) q
    answers [] =
        get-root all
        ∙ neither (touches (keys (map_of es)) [])
        ∙ ap (λ o. if touches (keys (map_of es)) [] then o else None) (sym (get-root es))
        ∙ ap (λ o. if touches (keys (map_of es)) [] then get (map_of es) [] else o) (sym (get-root fs))
        ∙ sym (get-overlaid_on (map_of es) (map_of fs) [])
    answers (t ∷ q) =
        get-level t q all laid.entries
        ∙ ap (λ o. value_in o q) (laid.at_token t)
        ∙ value_merged (source_at t es) (source_at t fs) (λ s is. filled_at t es s h is) q
        ∙ ap (λ b. if b then value_in (source_at t es) q else value_in (source_at t fs) q) (sym (touches-level t q es h))
        ∙ ap (λ o. if touches (keys (map_of es)) (t ∷ q) then o else value_in (source_at t fs) q) (sym (get-level t q es h))
        ∙ ap (λ o. if touches (keys (map_of es)) (t ∷ q) then get (map_of es) (t ∷ q) else o) (sym (get-level t q fs g))
        ∙ sym (get-overlaid_on (map_of es) (map_of fs) (t ∷ q))

-- how deep a source is, where each level counts three times
abbrev pub source_depth : Source → ℕ
source_depth (Leaf v) = 0
source_depth (Inner m) = 3 * depth m + 2

source_shallow : (token : List ℕ) (s : Source) → IsFilled s → source_depth s < 3 * longest (values_at token s)
source_shallow token (Leaf v) h = omega arith
source_shallow token (Inner m) h = omega (arith, longest-under token (entries m) (entries_exist m h.filled))

-- a source of a level is less deep
pub item_falls : (es : List Entry) (i : ℕ) (d : Entry) → AreEntries es → i < length es → source_depth (get_or es i d).source < 3 * longest (values_of es)
item_falls [] i d h l = absurd (omega arith)
item_falls (f ∷ es) zero d h l = omega (arith, source_shallow f.token f.source h.0, longest-append (values_at f.token f.source) (values_of es))
item_falls (f ∷ es) (suc i) d h l = omega (arith, item_falls es i d h.2 (omega arith), longest-append (values_at f.token f.source) (values_of es))

-- a level is no deeper than its container
pub level_shallow : (m : Map) (es : List Entry) → m ≡ map_of es → longest (values_of es) ≤ depth m
level_shallow m es is =
    let deep : depth m ≡ longest (entries (map_of es)) = ap depth is in
    omega (arith, longest-from_entries (values_of es))

-- one more part over the later ones
pub overlaid_step : {X : Type 0} (f : X → Map) (parts : List X) (i : ℕ) (x : X) (whole next : Map) → i < length parts → x ≡ get_or parts i x
    → ((at : Locator) → get whole at ≡ overlaid_at (map f (drop (suc i) parts)) at) → next ≡ overlaid_on (f x) whole
    → (at : Locator) → get next at ≡ overlaid_at (map f (drop i parts)) at
overlaid_step f parts i x whole next l is laid over at =
    let parts_are : drop i parts ≡ x ∷ drop (suc i) parts = drop-cons parts i x l ∙ ap (λ y. y ∷ drop (suc i) parts) (sym is) in
    ap (λ m. get m at) over
    ∙ get-overlaid_on (f x) whole at
    ∙ ap (λ o. if touches (keys (f x)) at then get (f x) at else o) (laid at)
    ∙ ap (λ ps. overlaid_at (map f ps) at) (sym parts_are)

-- the last part alone
pub overlaid_last : {X : Type 0} (f : X → Map) (parts : List X) (i : ℕ) (x : X) (whole : Map) → suc i ≡ length parts → x ≡ get_or parts i x → whole ≡ f x
    → (at : Locator) → get whole at ≡ overlaid_at (map f (drop i parts)) at
overlaid_last f parts i x whole l is alone at =
    let parts_are : drop i parts ≡ x ∷ drop (suc i) parts = drop-cons parts i x (omega arith) ∙ ap (λ y. y ∷ drop (suc i) parts) (sym is) in
    ap (λ m. get m at) alone
    ∙ elim (touches (keys (f x)) at) as (λ b. touches (keys (f x)) at ≡ b → get (f x) at ≡ (if b then get (f x) at else None)) [ true ↦ λ _. refl | false ↦ λ apart. untouched (f x) at apart ] refl
    ∙ ap (λ ps. overlaid_at (map f ps) at) (sym (parts_are ∙ ap (λ ys. x ∷ ys) (drop_all (suc i) parts (omega arith))))

-- no part at all
pub overlaid_none : {X : Type 0} (f : X → Map) (parts : List X) (whole : Map) → length parts ≡ 0 → whole ≡ empty → (at : Locator) → get whole at ≡ overlaid_at (map f parts) at
overlaid_none f [] whole none is at = ap (λ m. get m at) is ∙ get-empty (slice_cmp (slice_cmp nat_cmp)) at
overlaid_none f (x ∷ parts) whole none is at = absurd (omega arith)
