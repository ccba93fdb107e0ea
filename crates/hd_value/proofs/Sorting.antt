-- Entries in the order of their tokens.
use Rattle.std.proofs.Common.{◌≡◌, ℕ, zero, suc, ◌<◌, ◌≤◌, Bool, true, false, cond, if◌then◌else◌, filter, set, get_or, length, List, [], ◌∷◌, ◌++◌, Option, Some, None, Result, Ok, Err, IfOk, IfErr, ltb, ltb-true, ltb-false, refl, ap, sym, subst, ◌∙◌, arith}
use Rattle.std.specs.List.{insert}
use Rattle.std.specs.List.Sorted.{IsSearchInRange, IsBinarySearchResult, IsNonDecreasingBy}
use Rattle.std.specs.declared.cmp.Ordering.{Ordering}
use Rattle.std.specs.Ordering.{is_lt, is_gt, is_eq, ordering_index, ordering_reverse}
use Rattle.std.specs.declared.cmp.Ordering.TheVariants.{Less, Equal, Greater}
use Rattle.std.specs.Cmp.Lexicographic.{nat_list_cmp_total, texts_ties}
use Rattle.std.specs.FinMap.{slice_cmp-IsAntisymmetric, nat_cmp-IsAntisymmetric}
use Rattle.std.proofs.lemmas.Cmp.{tied_itself}
use Rattle.hd_value.specs.declared.container.Entry.{Entry}
use Rattle.hd_value.specs.declared.container.Source.{Source}
use Rattle.hd_path.specs.Names.{is_same, byte_order}
use Rattle.hd_path.proofs.NamePrefixes.{same_text, same_itself}
use Rattle.hd_path.proofs.Logic.{some_is_not}
use Rattle.hd_value.specs.inner.Entries.{source_at, entries_with, IsFilled, IsBefore, IsPlace, IsGap, AreEntries}

-- the order of tokens

pub order_itself : (t : List ℕ) → byte_order t t ≡ Equal
order_itself t = tied_itself nat_list_cmp_total t

pub order_ties : (t u : List ℕ) → byte_order t u ≡ Equal → t ≡ u
order_ties = slice_cmp-IsAntisymmetric nat_cmp-IsAntisymmetric

pub order_turned : (t u : List ℕ) → byte_order t u ≡ ordering_reverse (byte_order u t)
order_turned = nat_list_cmp_total.antisymm

pub above_turned : (t u : List ℕ) → byte_order t u ≡ Less → byte_order u t ≡ Greater
above_turned t u e = order_turned u t ∙ ap ordering_reverse e

pub below_turned : (t u : List ℕ) → byte_order t u ≡ Greater → byte_order u t ≡ Less
below_turned t u e = order_turned u t ∙ ap ordering_reverse e

pub below_through : (t u w : List ℕ) → byte_order t u ≡ Less → byte_order u w ≡ Less → byte_order t w ≡ Less
below_through = nat_list_cmp_total.trans

pub below_apart : (t u : List ℕ) → byte_order t u ≡ Less → is_same t u ≡ false
below_apart t u e = texts_ties t u ∙ ap is_eq e

pub above_apart : (t u : List ℕ) → byte_order t u ≡ Greater → is_same t u ≡ false
above_apart t u e = texts_ties t u ∙ ap is_eq e

-- the order to a third token rises with the token
order_rises : (a b t : List ℕ) → byte_order a b ≡ Less → ordering_index (byte_order a t) ≤ ordering_index (byte_order b t)
order_rises a b t e =
    elim (byte_order b t) as (λ r. byte_order b t ≡ r → ordering_index (byte_order a t) ≤ ordering_index r) [
      | Less ↦ λ is. let low : ordering_index (byte_order a t) ≡ 0 = ap ordering_index (below_through a b t e is) in omega arith
      | Equal ↦ λ is. let low : ordering_index (byte_order a t) ≡ 0 = ap ordering_index (subst (λ (w : List ℕ). byte_order a w ≡ Less) (order_ties b t is) e) in omega arith
      | Greater ↦ λ is. highest (byte_order a t)
    ] refl
  where
    highest : (r : Ordering) → ordering_index r ≤ 2
    highest Less = omega arith
    highest Equal = omega arith
    highest Greater = omega arith

-- entries after a token

pub none_before : (t : List ℕ) (es : List Entry) → IsBefore t es → source_at t es ≡ None
none_before t [] h = refl
none_before t (e ∷ es) h = ap (λ b. if b then Some e.source else source_at t es) (below_apart t e.token h.0) ∙ none_before t es h.1

pub before_further : (t u : List ℕ) (es : List Entry) → byte_order t u ≡ Less → IsBefore u es → IsBefore t es
before_further t u [] e h = tt
before_further t u (x ∷ es) e h = (below_through t u x.token e h.0, before_further t u es e h.1)

pub before-append : (t : List ℕ) (xs ys : List Entry) → IsBefore t xs → IsBefore t ys → IsBefore t (xs ++ ys)
before-append t [] ys h g = g
before-append t (x ∷ xs) ys h g = (h.0, before-append t xs ys h.1 g)

before-filter : (p : Entry → Bool) (t : List ℕ) (es : List Entry) → IsBefore t es → IsBefore t (filter p es)
before-filter p t [] h = tt
before-filter p t (e ∷ es) h = elim (p e) as (λ b. IsBefore t (cond b (e ∷ filter p es) (filter p es))) [ true ↦ (h.0, before-filter p t es h.1) | false ↦ before-filter p t es h.1 ]

entries-filter : (p : Entry → Bool) (es : List Entry) → AreEntries es → AreEntries (filter p es)
entries-filter p [] h = tt
entries-filter p (e ∷ es) h = elim (p e) as (λ b. AreEntries (cond b (e ∷ filter p es) (filter p es))) [ true ↦ (h.0, before-filter p e.token es h.1, entries-filter p es h.2) | false ↦ entries-filter p es h.2 ]

before_get : (t : List ℕ) (es : List Entry) (i : ℕ) (d : Entry) → IsBefore t es → i < length es → byte_order t (get_or es i d).token ≡ Less
before_get t [] i d h l = absurd (omega arith)
before_get t (e ∷ es) zero d h l = h.0
before_get t (e ∷ es) (suc i) d h l = before_get t es i d h.1 (omega arith)

tokens_ascend : (es : List Entry) (i j : ℕ) (d : Entry) → AreEntries es → i < j → j < length es → byte_order (get_or es i d).token (get_or es j d).token ≡ Less
tokens_ascend [] i j d h less l = absurd (omega arith)
tokens_ascend (e ∷ es) i zero d h less l = absurd (omega arith)
tokens_ascend (e ∷ es) zero (suc j) d h less l = before_get e.token es j d h.1 (omega arith)
tokens_ascend (e ∷ es) (suc i) (suc j) d h less l = tokens_ascend es i j d h.2 (omega arith) (omega arith)

-- what a filter by tokens leaves

pub source_at-filter : (p : List ℕ → Bool) (t : List ℕ) (es : List Entry) → source_at t (filter (λ e. p e.token) es) ≡ (if p t then source_at t es else None)
source_at-filter p t [] = elim (p t) as (λ b. ◌≡◌ {A = Option Source} None (if b then None else None)) [ true ↦ refl | false ↦ refl ]
source_at-filter p t (f ∷ fs) =
    let rest : source_at t (filter (λ e. p e.token) fs) ≡ (if p t then source_at t fs else None) = source_at-filter p t fs in
    elim (p f.token) as (λ b. p f.token ≡ b → source_at t (cond b (f ∷ filter (λ e. p e.token) fs) (filter (λ e. p e.token) fs)) ≡ (if p t then (if is_same t f.token then Some f.source else source_at t fs) else None)) [
      | true ↦ λ passes. ap (λ o. if is_same t f.token then Some f.source else o) rest
          ∙ elim (is_same t f.token) as (λ b. is_same t f.token ≡ b → (if b then Some f.source else (if p t then source_at t fs else None)) ≡ (if p t then (if b then Some f.source else source_at t fs) else None)) [
            | true ↦ λ same. ap (λ b. if b then Some f.source else None) (sym (ap p (same_text t f.token same) ∙ passes))
            | false ↦ λ _. refl
          ] refl
      | false ↦ λ fails. rest
          ∙ elim (is_same t f.token) as (λ b. is_same t f.token ≡ b → (if p t then source_at t fs else None) ≡ (if p t then (if b then Some f.source else source_at t fs) else None)) [
            | true ↦ λ same.
                let there : p t ≡ false = ap p (same_text t f.token same) ∙ fails in
                ap (λ b. if b then source_at t fs else None) there ∙ ap (λ b. if b then Some f.source else None) (sym there)
            | false ↦ λ _. refl
          ] refl
    ] refl

-- the entries below a token, and those above it
abbrev pub under : List ℕ → List Entry → List Entry
under t es = filter (λ e. is_lt (byte_order e.token t)) es

abbrev pub above : List ℕ → List Entry → List Entry
above t es = filter (λ e. is_gt (byte_order e.token t)) es

none_under : (t : List ℕ) (es : List Entry) → IsBefore t es → under t es ≡ []
none_under t [] h = refl
none_under t (e ∷ es) h = ap (λ r. cond (is_lt r) (e ∷ under t es) (under t es)) (above_turned t e.token h.0) ∙ none_under t es h.1

all_above : (t : List ℕ) (es : List Entry) → IsBefore t es → above t es ≡ es
all_above t [] h = refl
all_above t (e ∷ es) h = ap (λ r. cond (is_gt r) (e ∷ above t es) (above t es)) (above_turned t e.token h.0) ∙ ap (λ fs. e ∷ fs) (all_above t es h.1)

above_before : (t : List ℕ) (es : List Entry) → IsBefore t (above t es)
above_before t [] = tt
above_before t (e ∷ es) =
    elim (byte_order e.token t) as (λ r. byte_order e.token t ≡ r → IsBefore t (cond (is_gt r) (e ∷ above t es) (above t es))) [
      | Less ↦ λ _. above_before t es
      | Equal ↦ λ _. above_before t es
      | Greater ↦ λ is. (below_turned e.token t is, above_before t es)
    ] refl

-- two parts in order round an entry
abbrev AllBelow : List Entry → List ℕ → Type 0
AllBelow [] t = Unit {0}
AllBelow (e ∷ es) t = (byte_order e.token t ≡ Less) × AllBelow es t

under_below : (t : List ℕ) (es : List Entry) → AllBelow (under t es) t
under_below t [] = tt
under_below t (e ∷ es) =
    elim (byte_order e.token t) as (λ r. byte_order e.token t ≡ r → AllBelow (cond (is_lt r) (e ∷ under t es) (under t es)) t) [
      | Less ↦ λ is. (is, under_below t es)
      | Equal ↦ λ _. under_below t es
      | Greater ↦ λ _. under_below t es
    ] refl

joined_entries : (xs : List Entry) (y : Entry) (ys : List Entry) → AreEntries xs → AllBelow xs y.token → AreEntries (y ∷ ys) → AreEntries (xs ++ y ∷ ys)
joined_entries [] y ys h b g = g
joined_entries (x ∷ xs) y ys h b g = (h.0, before-append x.token xs (y ∷ ys) h.1 (b.0, before_further x.token y.token ys b.0 g.1), joined_entries xs y ys h.2 b.1 g)

pub placed_entries : (t : List ℕ) (s : Source) (es : List Entry) → AreEntries es → IsFilled s → AreEntries (entries_with t s es)
placed_entries t s es h f =
    joined_entries (under t es) (record { token = t; source = s }) (above t es) (entries-filter (λ e. is_lt (byte_order e.token t)) es h) (under_below t es) (f, above_before t es, entries-filter (λ e. is_gt (byte_order e.token t)) es h)

source_at-append : (t : List ℕ) (xs ys : List Entry) → source_at t xs ≡ None → source_at t (xs ++ ys) ≡ source_at t ys
source_at-append t [] ys none = refl
source_at-append t (x ∷ xs) ys none =
    elim (is_same t x.token) as (λ b. (if b then Some x.source else source_at t xs) ≡ None → (if b then Some x.source else source_at t (xs ++ ys)) ≡ source_at t ys) [
      | true ↦ λ is. some_is_not x.source is
      | false ↦ λ is. source_at-append t xs ys is
    ] none

source_at-append_first : (t : List ℕ) (xs ys : List Entry) (o : Option Source) → source_at t ys ≡ None → source_at t xs ≡ o → source_at t (xs ++ ys) ≡ o
source_at-append_first t [] ys o none is = none ∙ is
source_at-append_first t (x ∷ xs) ys o none is =
    elim (is_same t x.token) as (λ b. (if b then Some x.source else source_at t xs) ≡ o → (if b then Some x.source else source_at t (xs ++ ys)) ≡ o) [
      | true ↦ λ here. here
      | false ↦ λ later. source_at-append_first t xs ys o none later
    ] is

pub source_at-placed : (t : List ℕ) (s : Source) (u : List ℕ) (es : List Entry) → source_at u (entries_with t s es) ≡ (if is_same u t then Some s else source_at u es)
source_at-placed t s u es =
    elim (byte_order u t) as (λ r. byte_order u t ≡ r → source_at u (entries_with t s es) ≡ (if is_same u t then Some s else source_at u es)) [
      | Less ↦ λ is.
          let apart : is_same u t ≡ false = below_apart u t is in
          source_at-append_first u (under t es) (record { token = t; source = s } ∷ above t es) (source_at u es)
          (ap (λ b. if b then Some s else source_at u (above t es)) apart ∙ source_at-filter (λ w. is_gt (byte_order w t)) u es ∙ ap (λ r. if is_gt r then source_at u es else None) is)
          (source_at-filter (λ w. is_lt (byte_order w t)) u es ∙ ap (λ r. if is_lt r then source_at u es else None) is)
          ∙ ap (λ b. if b then Some s else source_at u es) (sym apart)
      | Equal ↦ λ is.
          let same : is_same u t ≡ true = texts_ties u t ∙ ap is_eq is in
          source_at-append u (under t es) (record { token = t; source = s } ∷ above t es) (source_at-filter (λ w. is_lt (byte_order w t)) u es ∙ ap (λ r. if is_lt r then source_at u es else None) is)
          ∙ ap (λ b. if b then Some s else source_at u (above t es)) same
          ∙ ap (λ b. if b then Some s else source_at u es) (sym same)
      | Greater ↦ λ is.
          let apart : is_same u t ≡ false = above_apart u t is in
          source_at-append u (under t es) (record { token = t; source = s } ∷ above t es) (source_at-filter (λ w. is_lt (byte_order w t)) u es ∙ ap (λ r. if is_lt r then source_at u es else None) is)
          ∙ ap (λ b. if b then Some s else source_at u (above t es)) apart
          ∙ source_at-filter (λ w. is_gt (byte_order w t)) u es
          ∙ ap (λ r. if is_gt r then source_at u es else None) is
          ∙ ap (λ b. if b then Some s else source_at u es) (sym apart)
    ] refl

-- the place of a token

pub at_place : (t : List ℕ) (es : List Entry) (i : ℕ) (d : Entry) → AreEntries es → i < length es → (get_or es i d).token ≡ t → source_at t es ≡ Some (get_or es i d).source
at_place t [] i d h l is = absurd (omega arith)
at_place t (e ∷ es) zero d h l is = ap (λ b. if b then Some e.source else source_at t es) (subst (λ (w : List ℕ). is_same w e.token ≡ true) is (same_itself e.token))
at_place t (e ∷ es) (suc i) d h l is =
    let further : byte_order e.token t ≡ Less = subst (λ (w : List ℕ). byte_order e.token w ≡ Less) is (before_get e.token es i d h.1 (omega arith)) in
    ap (λ b. if b then Some e.source else source_at t es) (above_apart t e.token (above_turned e.token t further)) ∙ at_place t es i d h.2 (omega arith) is

pub set_place : (t : List ℕ) (s : Source) (es : List Entry) (i : ℕ) (d : Entry) → AreEntries es → i < length es → (get_or es i d).token ≡ t → set es i (record { token = t; source = s }) ≡ entries_with t s es
set_place t s [] i d h l is = absurd (omega arith)
set_place t s (e ∷ es) zero d h l is =
    let here : byte_order e.token t ≡ Equal = subst (λ (w : List ℕ). byte_order e.token w ≡ Equal) is (order_itself e.token) in
    let later : IsBefore t es = subst (λ (w : List ℕ). IsBefore w es) is h.1 in
    sym (ap (λ r. cond (is_lt r) (e ∷ under t es) (under t es) ++ record { token = t; source = s } ∷ cond (is_gt r) (e ∷ above t es) (above t es)) here
    ∙ ap (λ fs. fs ++ record { token = t; source = s } ∷ above t es) (none_under t es later)
    ∙ ap (λ fs. record { token = t; source = s } ∷ fs) (all_above t es later))
set_place t s (e ∷ es) (suc i) d h l is =
    let further : byte_order e.token t ≡ Less = subst (λ (w : List ℕ). byte_order e.token w ≡ Less) is (before_get e.token es i d h.1 (omega arith)) in
    ap (λ fs. e ∷ fs) (set_place t s es i d h.2 (omega arith) is)
    ∙ sym (ap (λ r. cond (is_lt r) (e ∷ under t es) (under t es) ++ record { token = t; source = s } ∷ cond (is_gt r) (e ∷ above t es) (above t es)) further)

-- the gap for a token

all_over : (t : List ℕ) (s : Source) (es : List Entry) → ((k : ℕ) (d : Entry) → k < length es → byte_order (get_or es k d).token t ≡ Greater) → (under t es ≡ []) × (above t es ≡ es)
all_over t s [] h = (refl, refl)
all_over t s (e ∷ es) h =
    let rest = all_over t s es (λ k d l. h (suc k) d (omega arith)) in
    let here : byte_order e.token t ≡ Greater = h 0 e (omega arith) in
    (ap (λ r. cond (is_lt r) (e ∷ under t es) (under t es)) here ∙ rest.0, ap (λ r. cond (is_gt r) (e ∷ above t es) (above t es)) here ∙ ap (λ fs. e ∷ fs) rest.1)

pub insert_gap : (t : List ℕ) (s : Source) (es : List Entry) (i : ℕ) → IsGap t es i → insert es i (record { token = t; source = s }) ≡ entries_with t s es
insert_gap t s [] zero g = refl
insert_gap t s [] (suc i) g = absurd (omega (arith, g.in_range))
insert_gap t s (e ∷ es) zero g =
    let over = all_over t s (e ∷ es) (λ k d l. g.above k d (omega arith) l) in
    sym (ap (λ fs. fs ++ record { token = t; source = s } ∷ above t (e ∷ es)) over.0 ∙ ap (λ fs. record { token = t; source = s } ∷ fs) over.1)
insert_gap t s (e ∷ es) (suc i) g =
    let below : byte_order e.token t ≡ Less = g.below 0 e (omega arith) (omega arith) in
    let rest : IsGap t es i = record { in_range = omega (arith, g.in_range); below = λ k d low high. g.below (suc k) d (omega arith) (omega arith); above = λ k d low high. g.above (suc k) d (omega arith) (omega arith) } in
    ap (λ fs. e ∷ fs) (insert_gap t s es i rest)
    ∙ sym (ap (λ r. cond (is_lt r) (e ∷ under t es) (under t es) ++ record { token = t; source = s } ∷ cond (is_gt r) (e ∷ above t es) (above t es)) below)

pub none_in_gap : (t : List ℕ) (es : List Entry) (i : ℕ) → IsGap t es i → source_at t es ≡ None
none_in_gap t [] i g = refl
none_in_gap t (e ∷ es) zero g =
    ap (λ b. if b then Some e.source else source_at t es) (below_apart t e.token (below_turned e.token t (g.above 0 e (omega arith) (omega arith))))
    ∙ none_in_gap t es zero (record { in_range = omega arith; below = λ k d low high. absurd (omega arith); above = λ k d low high. g.above (suc k) d (omega arith) (omega arith) })
none_in_gap t (e ∷ es) (suc i) g =
    ap (λ b. if b then Some e.source else source_at t es) (above_apart t e.token (above_turned e.token t (g.below 0 e (omega arith) (omega arith))))
    ∙ none_in_gap t es i (record { in_range = omega (arith, g.in_range); below = λ k d low high. g.below (suc k) d (omega arith) (omega arith); above = λ k d low high. g.above (suc k) d (omega arith) (omega arith) })

-- what a binary search by the tokens finds
searches_rise : (t : List ℕ) (es : List Entry) → AreEntries es → IsNonDecreasingBy (λ e. ordering_index (byte_order e.token t)) es
searches_rise t es h i j d le l =
    elim (ltb i j) as (λ b. ltb i j ≡ b → ordering_index (byte_order (get_or es i d).token t) ≤ ordering_index (byte_order (get_or es j d).token t)) [
      | true ↦ λ is. order_rises (get_or es i d).token (get_or es j d).token t (tokens_ascend es i j d h (ltb-true i j is) l)
      | false ↦ λ is. let same : i ≡ j = omega (arith, ltb-false i j is) in subst (λ (k : ℕ). ordering_index (byte_order (get_or es i d).token t) ≤ ordering_index (byte_order (get_or es k d).token t)) same (omega arith)
    ] refl

pub searched : (t : List ℕ) (es : List Entry) (r : Result ℕ ℕ) → AreEntries es → IsSearchInRange r (length es) → IsBinarySearchResult (λ e. byte_order e.token t) es r → record { found : IfOk r (IsPlace t es); missing : IfErr r (IsGap t es) }
searched t es (Ok i) h within equal = record { found = record { in_range = within; has_token = λ d. order_ties (get_or es i d).token t (equal d) }; missing = tt }
searched t es (Err i) h within parted =
    let parts = parted (searches_rise t es h) in
    record { found = tt; missing = record { in_range = within; below = parts.0; above = parts.1 } }
