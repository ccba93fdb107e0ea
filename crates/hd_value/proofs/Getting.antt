-- What the map of a level answers.
use Rattle.std.proofs.Common.{◌≡◌, ◌≢◌, ℕ, Bool, true, false, cond, if◌then◌else◌, map, List, [], ◌∷◌, ◌++◌, length, ◌&&◌, Option, Some, None, refl, ap, sym, subst, ◌∙◌, arith}
use Rattle.std.specs.List.{filter_map, cons_option}
use Rattle.std.specs.Cmp.Lexicographic.{slice_cmp}
use Rattle.std.specs.Ordering.{nat_cmp, eq_by_cmp}
use Rattle.std.specs.FinMap.{find, entries, from_entries, get, empty, get-entries, get-from_entries, get-empty, len-empty, len-entries, same_map}
use Rattle.hd_path.specs.inner.Comparing.{names_ties}
use Rattle.hd_tokens.specs.Locators.{Locator}
use Rattle.hd_value.specs.declared.value.Value.{Value}
use Rattle.hd_value.specs.declared.container.Entry.{Entry}
use Rattle.hd_value.specs.declared.container.Source.{Source}
use Rattle.hd_value.specs.declared.container.Source.TheVariants.{Inner, Leaf}
use Rattle.hd_path.specs.Names.{is_same}
use Rattle.hd_path.specs.Paths.{is_prefix}
use Rattle.hd_path.proofs.NamePrefixes.{same_text, and_true}
use Rattle.hd_value.specs.Maps.{Map, suffix_after, value_at_suffix, below, IsPrefixFree}
use Rattle.hd_value.specs.Containers.{lookup, inner_if_filled, leaf_or_inner}
use Rattle.hd_value.specs.Levels.{values_at, values_of}
use Rattle.hd_value.specs.inner.Entries.{source_at, IsFilled, AreEntries, IsInner}
use Rattle.hd_value.specs.inner.Falls.{locators_total, locators_tie, entries_exist}
use Rattle.hd_value.proofs.Sorting.{none_before}

-- whether two locators are one
abbrev pub eqk : Locator → Locator → Bool
eqk = eq_by_cmp (slice_cmp (slice_cmp nat_cmp))

abbrev pub seek : Locator → List (Locator × Value) → Option Value
seek = find (slice_cmp (slice_cmp nat_cmp))

-- the map of a level
abbrev pub map_of : List Entry → Map
map_of es = from_entries (values_of es)

pub eqk-cons : (x y : List ℕ) (a b : Locator) → eqk (x ∷ a) (y ∷ b) ≡ (is_same x y && eqk a b)
eqk-cons x y a b = sym (names_ties (x ∷ a) (y ∷ b)) ∙ ap (λ t. is_same x y && t) (names_ties a b)

abbrev pub or_else : Option Value → Option Value → Option Value
or_else None b = b
or_else (Some v) b = Some v

pub seek-append : (q : Locator) (xs ys : List (Locator × Value)) → seek q (xs ++ ys) ≡ or_else (seek q xs) (seek q ys)
seek-append q [] ys = refl
seek-append q (e ∷ xs) ys =
    elim (eqk q e.0) as (λ t. cond t (Some e.1) (seek q (xs ++ ys)) ≡ or_else (cond t (Some e.1) (seek q xs)) (seek q ys)) [ true ↦ refl | false ↦ seek-append q xs ys ]

-- what a source answers to what is left of a locator
abbrev pub value_in : Option Source → Locator → Option Value
value_in None q = None
value_in (Some (Leaf v)) [] = Some v
value_in (Some (Leaf v)) (u ∷ q) = None
value_in (Some (Inner m)) q = get m q

seek-under : (t u : List ℕ) (q : Locator) (es : List (Locator × Value)) → seek (t ∷ q) (map (λ e. (u ∷ e.0, e.1)) es) ≡ (if is_same t u then seek q es else None)
seek-under t u q [] = elim (is_same t u) as (λ b. ◌≡◌ {A = Option Value} None (if b then None else None)) [ true ↦ refl | false ↦ refl ]
seek-under t u q (e ∷ es) =
    let rest : seek (t ∷ q) (map (λ e. (u ∷ e.0, e.1)) es) ≡ (if is_same t u then seek q es else None) = seek-under t u q es in
    ap (λ b. cond b (Some e.1) (seek (t ∷ q) (map (λ e. (u ∷ e.0, e.1)) es))) (eqk-cons t u q e.0)
    ∙ ap (cond (is_same t u && eqk q e.0) (Some e.1)) rest
    ∙ elim (is_same t u) as (λ b. cond (b && eqk q e.0) (Some e.1) (if b then seek q es else None) ≡ (if b then seek q (e ∷ es) else None)) [ true ↦ refl | false ↦ refl ]

seek-values_at : (t u : List ℕ) (q : Locator) (s : Source) → seek (t ∷ q) (values_at u s) ≡ (if is_same t u then value_in (Some s) q else None)
seek-values_at t u [] (Leaf v) = ap (λ b. cond b (Some v) None) (eqk-cons t u [] []) ∙ elim (is_same t u) as (λ b. cond (b && true) (Some v) None ≡ (if b then Some v else None)) [ true ↦ refl | false ↦ refl ]
seek-values_at t u (w ∷ q) (Leaf v) = ap (λ b. cond b (Some v) None) (eqk-cons t u (w ∷ q) []) ∙ elim (is_same t u) as (λ b. cond (b && false) (Some v) None ≡ (if b then None else None)) [ true ↦ refl | false ↦ refl ]
seek-values_at t u q (Inner m) = seek-under t u q (entries m) ∙ ap (λ o. if is_same t u then o else None) (sym (get-entries m q))

seek-values_of : (t : List ℕ) (q : Locator) (es : List Entry) → AreEntries es → seek (t ∷ q) (values_of es) ≡ value_in (source_at t es) q
seek-values_of t q [] h = refl
seek-values_of t q (e ∷ es) h =
    let rest : seek (t ∷ q) (values_of es) ≡ value_in (source_at t es) q = seek-values_of t q es h.2 in
    seek-append (t ∷ q) (values_at e.token e.source) (values_of es)
    ∙ ap (λ o. or_else o (seek (t ∷ q) (values_of es))) (seek-values_at t e.token q e.source)
    ∙ ap (or_else (if is_same t e.token then value_in (Some e.source) q else None)) rest
    ∙ elim (is_same t e.token) as (λ b. is_same t e.token ≡ b → or_else (if b then value_in (Some e.source) q else None) (value_in (source_at t es) q) ≡ value_in (if b then Some e.source else source_at t es) q) [
      | true ↦ λ same.
          let gone : source_at t es ≡ None = subst (λ (w : List ℕ). source_at w es ≡ None) (sym (same_text t e.token same)) (none_before e.token es h.1) in
          ap (λ o. or_else (value_in (Some e.source) q) (value_in o q)) gone ∙ or_nothing (value_in (Some e.source) q)
      | false ↦ λ _. refl
    ] refl
  where
    or_nothing : (o : Option Value) → or_else o None ≡ o
    or_nothing None = refl
    or_nothing (Some v) = refl

seek-under_root : (u : List ℕ) (es : List (Locator × Value)) → seek [] (map (λ e. (u ∷ e.0, e.1)) es) ≡ None
seek-under_root u [] = refl
seek-under_root u (e ∷ es) = seek-under_root u es

seek-root : (es : List Entry) → seek [] (values_of es) ≡ None
seek-root [] = refl
seek-root (e ∷ es) = seek-append [] (values_at e.token e.source) (values_of es) ∙ ap (λ o. or_else o (seek [] (values_of es))) (of_source e.token e.source) ∙ seek-root es
  where
    of_source : (u : List ℕ) (s : Source) → seek [] (values_at u s) ≡ None
    of_source u (Leaf v) = refl
    of_source u (Inner m) = seek-under_root u (entries m)

-- a level answers by the source at the first token
pub get-level : (t : List ℕ) (q : Locator) (es : List Entry) → AreEntries es → get (map_of es) (t ∷ q) ≡ value_in (source_at t es) q
get-level t q es h = get-from_entries locators_total (values_of es) (t ∷ q) ∙ seek-values_of t q es h

pub get-root : (es : List Entry) → get (map_of es) [] ≡ None
get-root es = get-from_entries locators_total (values_of es) [] ∙ seek-root es

pub filled_at : (t : List ℕ) (es : List Entry) (s : Source) → AreEntries es → source_at t es ≡ Some s → IsFilled s
filled_at t [] s h e = cc
filled_at t (f ∷ es) s h e =
    elim (is_same t f.token) as (λ b. (if b then Some f.source else source_at t es) ≡ Some s → IsFilled s) [
      | true ↦ λ is. subst IsFilled (same_some f.source s is) h.0
      | false ↦ λ is. filled_at t es s h.2 is
    ] e
  where
    same_some : (x y : Source) → Some x ≡ Some y → x ≡ y
    same_some x y e = cc

-- no key is a prefix of another

pub eqk_same : (q k : Locator) → eqk q k ≡ true → q ≡ k
eqk_same [] [] e = refl
eqk_same [] (y ∷ k) e = cc
eqk_same (x ∷ q) [] e = cc
eqk_same (x ∷ q) (y ∷ k) e =
    let both = and_true (is_same x y) (eqk q k) (sym (eqk-cons x y q k) ∙ e) in
    ap (λ w. w ∷ q) (same_text x y both.0) ∙ ap (λ t. y ∷ t) (eqk_same q k both.1)

prefix_free_in : (o : Option Source) → ((s : Source) → o ≡ Some s → IsFilled s) → (a b : Locator) → value_in o a ≢ None → value_in o b ≢ None → is_prefix a b ≡ true → a ≡ b
prefix_free_in None h a b some_a some_b p = absurd (some_a refl)
prefix_free_in (Some (Leaf v)) h [] [] some_a some_b p = refl
prefix_free_in (Some (Leaf v)) h [] (u ∷ b) some_a some_b p = absurd (some_b refl)
prefix_free_in (Some (Leaf v)) h (u ∷ a) b some_a some_b p = absurd (some_a refl)
prefix_free_in (Some (Inner m)) h a b some_a some_b p =
    let inner : IsInner m = h (Inner m) refl in
    inner.prefix_free a b some_a some_b p

prefix_free_level : (es : List Entry) → AreEntries es → IsPrefixFree (map_of es)
prefix_free_level es h [] b some_a some_b p = absurd (some_a (get-root es))
prefix_free_level es h (x ∷ a) [] some_a some_b p = absurd (some_b (get-root es))
prefix_free_level es h (x ∷ a) (y ∷ b) some_a some_b p =
    let both = and_true (is_same x y) (is_prefix a b) p in
    let same : x ≡ y = same_text x y both.0 in
    let some_here : value_in (source_at x es) b ≢ None = λ none. some_b (get-level y b es h ∙ ap (λ w. value_in (source_at w es) b) (sym same) ∙ none) in
    let rest : a ≡ b = prefix_free_in (source_at x es) (λ s e. filled_at x es s h e) a b (λ none. some_a (get-level x a es h ∙ none)) some_here both.1 in
    ap (λ w. w ∷ a) same ∙ ap (λ t. y ∷ t) rest

pub prefix_free_entries : (m : Map) (es : List Entry) → m ≡ map_of es → AreEntries es → IsPrefixFree m
prefix_free_entries m es is h = subst IsPrefixFree (sym is) (prefix_free_level es h)

pub root_entries : (m : Map) (es : List Entry) → m ≡ map_of es → get m [] ≡ None
root_entries m es is = ap (λ k. get k []) is ∙ get-root es

-- below a locator

-- what the first of some entries answers, and else the others
abbrev seek_in : Option (Locator × Value) → Locator → Option Value → Option Value
seek_in None q rest = rest
seek_in (Some e) q rest = cond (eqk q e.0) (Some e.1) rest

abbrev parts_below : Locator → List (Locator × Value) → List (Locator × Value)
parts_below at es = filter_map (λ e. value_at_suffix (suffix_after at e.0) e.1) es

seek-cons : (o : Option (Locator × Value)) (q : Locator) (es : List (Locator × Value)) → seek q (cons_option o es) ≡ seek_in o q (seek q es)
seek-cons None q es = refl
seek-cons (Some e) q es = refl

after_ties : (at key : Locator) (c : List ℕ) (q : Locator) (v : Value) (rest : Option Value)
    → seek_in (value_at_suffix (suffix_after at key) v) (c ∷ q) rest ≡ cond (eqk (at ++ c ∷ q) key) (Some v) rest
after_ties [] [] c q v rest = refl
after_ties [] (k ∷ key) c q v rest = refl
after_ties (a ∷ at) [] c q v rest = refl
after_ties (a ∷ at) (k ∷ key) c q v rest =
    elim (is_same a k) as (λ b. seek_in (value_at_suffix (if b then suffix_after at key else None) v) (c ∷ q) rest ≡ cond (b && eqk (at ++ c ∷ q) key) (Some v) rest) [ true ↦ after_ties at key c q v rest | false ↦ refl ]
    ∙ ap (λ b. cond b (Some v) rest) (sym (eqk-cons a k (at ++ c ∷ q) key))

after_root : (at key : Locator) (v : Value) (rest : Option Value) → seek_in (value_at_suffix (suffix_after at key) v) [] rest ≡ rest
after_root [] [] v rest = refl
after_root [] (k ∷ key) v rest = refl
after_root (a ∷ at) [] v rest = refl
after_root (a ∷ at) (k ∷ key) v rest =
    elim (is_same a k) as (λ b. seek_in (value_at_suffix (if b then suffix_after at key else None) v) [] rest ≡ rest) [ true ↦ after_root at key v rest | false ↦ refl ]

seek-below : (at : Locator) (c : List ℕ) (q : Locator) (es : List (Locator × Value)) → seek (c ∷ q) (parts_below at es) ≡ seek (at ++ c ∷ q) es
seek-below at c q [] = refl
seek-below at c q (e ∷ es) =
    seek-cons (value_at_suffix (suffix_after at e.0) e.1) (c ∷ q) (parts_below at es)
    ∙ after_ties at e.0 c q e.1 (seek (c ∷ q) (parts_below at es))
    ∙ ap (cond (eqk (at ++ c ∷ q) e.0) (Some e.1)) (seek-below at c q es)

seek-below_root : (at : Locator) (es : List (Locator × Value)) → seek [] (parts_below at es) ≡ None
seek-below_root at [] = refl
seek-below_root at (e ∷ es) =
    seek-cons (value_at_suffix (suffix_after at e.0) e.1) [] (parts_below at es) ∙ after_root at e.0 e.1 (seek [] (parts_below at es)) ∙ seek-below_root at es

pub get-below : (m : Map) (at : Locator) (c : List ℕ) (q : Locator) → get (below m at) (c ∷ q) ≡ get m (at ++ c ∷ q)
get-below m at c q = get-from_entries locators_total (parts_below at (entries m)) (c ∷ q) ∙ seek-below at c q (entries m) ∙ sym (get-entries m (at ++ c ∷ q))

pub get-below_root : (m : Map) (at : Locator) → get (below m at) [] ≡ None
get-below_root m at = get-from_entries locators_total (parts_below at (entries m)) [] ∙ seek-below_root at (entries m)

below_is : (m n : Map) (at : Locator) → get n [] ≡ None → ((c : List ℕ) (q : Locator) → get m (at ++ c ∷ q) ≡ get n (c ∷ q)) → below m at ≡ n
below_is m n at root same = same_map locators_total locators_tie (below m at) n answers
  where
    answers : (q : Locator) → get (below m at) q ≡ get n q
    answers [] = get-below_root m at ∙ sym root
    answers (c ∷ q) = get-below m at c q ∙ same c q

nothing_found : (m : Map) (t : List ℕ) (at : Locator) → get m (t ∷ at) ≡ None → ((c : List ℕ) (q : Locator) → get m (t ∷ at ++ c ∷ q) ≡ None) → lookup m (t ∷ at) ≡ None
nothing_found m t at here there =
    let none : below m (t ∷ at) ≡ empty = below_is m empty (t ∷ at) (get-empty (slice_cmp (slice_cmp nat_cmp)) []) (λ c q. there c q ∙ sym (get-empty (slice_cmp (slice_cmp nat_cmp)) (c ∷ q))) in
    ap (λ o. leaf_or_inner o (below m (t ∷ at))) here
    ∙ ap (λ n. inner_if_filled (entries n) n) none
    ∙ no_entries (entries empty) (sym (len-entries empty) ∙ len-empty (slice_cmp (slice_cmp nat_cmp)) Value)
  where
    no_entries : (es : List (Locator × Value)) → length es ≡ 0 → inner_if_filled es empty ≡ None
    no_entries [] e = refl
    no_entries (x ∷ es) e = absurd (omega arith)

-- what a source has at what is left of a locator
abbrev pub found_inside : Source → Locator → Option Source
found_inside (Leaf v) at = None
found_inside (Inner m) at = lookup m at

abbrev pub found_in : Option Source → Locator → Option Source
found_in None at = None
found_in (Some s) [] = Some s
found_in (Some s) (u ∷ at) = found_inside s (u ∷ at)

inner_found : (es : List (Locator × Value)) (n : Map) → es ≢ [] → inner_if_filled es n ≡ Some (Inner n)
inner_found [] n some = absurd (some refl)
inner_found (e ∷ es) n some = refl

found_by : (m : Map) (t : List ℕ) (at : Locator) (o : Option Source) → ((s : Source) → o ≡ Some s → IsFilled s) → ((q : Locator) → get m (t ∷ q) ≡ value_in o q) → lookup m (t ∷ at) ≡ found_in o at
found_by m t at None h g = nothing_found m t at (g at) (λ c q. g (at ++ c ∷ q))
found_by m t [] (Some (Leaf v)) h g = ap (λ o. leaf_or_inner o (below m (t ∷ []))) (g [])
found_by m t (u ∷ at) (Some (Leaf v)) h g = nothing_found m t (u ∷ at) (g (u ∷ at)) (λ c q. g (u ∷ at ++ c ∷ q))
found_by m t [] (Some (Inner n)) h g =
    let inner : IsInner n = h (Inner n) refl in
    let same : below m (t ∷ []) ≡ n = below_is m n (t ∷ []) inner.rootless (λ c q. g (c ∷ q)) in
    ap (λ o. leaf_or_inner o (below m (t ∷ []))) (g [] ∙ inner.rootless)
    ∙ ap (λ k. inner_if_filled (entries k) k) same
    ∙ inner_found (entries n) n (entries_exist n inner.filled)
found_by m t (u ∷ at) (Some (Inner n)) h g =
    let same : below m (t ∷ u ∷ at) ≡ below n (u ∷ at) = below_is m (below n (u ∷ at)) (t ∷ u ∷ at) (get-below_root n (u ∷ at)) (λ c q. g (u ∷ at ++ c ∷ q) ∙ sym (get-below n (u ∷ at) c q)) in
    ap (λ o. leaf_or_inner o (below m (t ∷ u ∷ at))) (g (u ∷ at)) ∙ ap (leaf_or_inner (get n (u ∷ at))) same

-- what is found in a level is found in the source at the first token
pub found_level : (es : List Entry) (t : List ℕ) (at : Locator) → AreEntries es → lookup (map_of es) (t ∷ at) ≡ found_in (source_at t es) at
found_level es t at h = found_by (map_of es) t at (source_at t es) (λ s e. filled_at t es s h e) (λ q. get-level t q es h)

pub found_step : (m : Map) (tokens : Locator) (es : List Entry) (t : List ℕ) (at : Locator) → m ≡ map_of es → AreEntries es → tokens ≡ t ∷ at → lookup m tokens ≡ found_in (source_at t es) at
found_step m tokens es t at is h named = ap (λ n. lookup n tokens) is ∙ ap (lookup (map_of es)) named ∙ found_level es t at h

pub no_items : (xs : Locator) → length xs ≡ 0 → xs ≡ []
no_items [] e = refl
no_items (x ∷ xs) e = absurd (omega arith)

pub found_further : (s : Source) (at : Locator) → (length at ≡ 0 → ⊥) → found_in (Some s) at ≡ found_inside s at
found_further s [] some = absurd (some refl)
found_further s (u ∷ at) some = refl
