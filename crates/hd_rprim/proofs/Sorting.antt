-- Rows in the order of their paths.
use Rattle.std.proofs.Common.{◌≡◌, ℕ, zero, suc, ◌<◌, ◌≤◌, Bool, true, false, cond, if◌then◌else◌, filter, set, get_or, length, not, List, [], ◌∷◌, ◌++◌, Some, None, Result, Ok, Err, IfOk, IfErr, ltb, ltb-true, ltb-false, refl, ap, sym, subst, ◌∙◌, arith}
use Rattle.std.specs.List.{insert, remove, AllByRecursion}
use Rattle.std.specs.List.Sorted.{IsStrictlySortedBy, IsSearchInRange, IsBinarySearchResult, IsNonDecreasingBy}
use Rattle.std.specs.declared.cmp.Ordering.{Ordering}
use Rattle.std.specs.Ordering.{is_lt, is_gt, ordering_index, ordering_reverse}
use Rattle.std.specs.declared.cmp.Ordering.TheVariants.{Less, Equal, Greater}
use Rattle.std.specs.Option.{option_map}
use Rattle.std.specs.Cmp.{tied_itself}
use Rattle.hd_path.specs.Paths.{Path, path_cmp}
use Rattle.hd_scene.specs.Tells.{is_same_path}
use Rattle.hd_scene.proofs.Prefixes.{is_same_path-decides}
use Rattle.hd_scene.proofs.Children.{path_cmp_total, path_cmp_exact}
use Rattle.hd_rprim.specs.declared.row.Row.{Row}
use Rattle.hd_rprim.specs.declared.row_table.PathRow.{PathRow}
use Rattle.hd_rprim.specs.Tables.{paths_of_rows, place_of, row_of, rows_with, rows_without, with_row_at, AreRows}
use Rattle.hd_rprim.specs.inner.Places.{IsPlace, IsGap}

-- the order of paths

pub order_itself : (p : Path) → path_cmp p p ≡ Equal
order_itself p = tied_itself path_cmp_total p

order_turned : (p q : Path) → path_cmp p q ≡ ordering_reverse (path_cmp q p)
order_turned = path_cmp_total.antisymm

above_turned : (p q : Path) → path_cmp p q ≡ Less → path_cmp q p ≡ Greater
above_turned p q e = order_turned q p ∙ ap ordering_reverse e

below_turned : (p q : Path) → path_cmp p q ≡ Greater → path_cmp q p ≡ Less
below_turned p q e = order_turned q p ∙ ap ordering_reverse e

below_through : (p q r : Path) → path_cmp p q ≡ Less → path_cmp q r ≡ Less → path_cmp p r ≡ Less
below_through = path_cmp_total.trans

apart : (p q : Path) (o : Ordering) → path_cmp p q ≡ o → (o ≡ Equal → false ≡ true) → is_same_path p q ≡ false
apart p q o e differs =
    elim (is_same_path p q) as (λ b. is_same_path p q ≡ b → b ≡ false) [
      | true ↦ λ same.
          let one : p ≡ q = (is_same_path-decides p q).0 same in
          sym (differs (sym e ∙ ap (path_cmp p) (sym one) ∙ order_itself p))
      | false ↦ λ _. refl
    ] refl

below_apart : (p q : Path) → path_cmp p q ≡ Less → is_same_path p q ≡ false
below_apart p q e = apart p q Less e (λ h. absurd (cc))

above_apart : (p q : Path) → path_cmp p q ≡ Greater → is_same_path p q ≡ false
above_apart p q e = apart p q Greater e (λ h. absurd (cc))

pub same_here : (p q : Path) → p ≡ q → is_same_path p q ≡ true
same_here p q e = (is_same_path-decides p q).1 e

-- the order to a third path rises with the path
order_rises : (p q t : Path) → path_cmp p q ≡ Less → ordering_index (path_cmp p t) ≤ ordering_index (path_cmp q t)
order_rises p q t e =
    elim (path_cmp q t) as (λ r. path_cmp q t ≡ r → ordering_index (path_cmp p t) ≤ ordering_index r) [
      | Less ↦ λ is. let low : ordering_index (path_cmp p t) ≡ 0 = ap ordering_index (below_through p q t e is) in omega arith
      | Equal ↦ λ is. let low : ordering_index (path_cmp p t) ≡ 0 = ap ordering_index (subst (λ (w : Path). path_cmp p w ≡ Less) (path_cmp_exact q t is) e) in omega arith
      | Greater ↦ λ is. highest (path_cmp p t)
    ] refl
  where
    highest : (r : Ordering) → ordering_index r ≤ 2
    highest Less = omega arith
    highest Equal = omega arith
    highest Greater = omega arith

-- rows after a path

abbrev IsBefore : Path → List PathRow → Type 0
IsBefore t rows = AllByRecursion (λ p. path_cmp t p ≡ Less) (paths_of_rows rows)

before_further : (t u : Path) (rows : List PathRow) → path_cmp t u ≡ Less → IsBefore u rows → IsBefore t rows
before_further t u [] e h = tt
before_further t u (r ∷ rows) e h = (below_through t u r.path e h.0, before_further t u rows e h.1)

before-append : (t : Path) (xs ys : List PathRow) → IsBefore t xs → IsBefore t ys → IsBefore t (xs ++ ys)
before-append t [] ys h g = g
before-append t (x ∷ xs) ys h g = (h.0, before-append t xs ys h.1 g)

before-filter : (p : PathRow → Bool) (t : Path) (rows : List PathRow) → IsBefore t rows → IsBefore t (filter p rows)
before-filter p t [] h = tt
before-filter p t (r ∷ rows) h = elim (p r) as (λ b. IsBefore t (cond b (r ∷ filter p rows) (filter p rows))) [ true ↦ (h.0, before-filter p t rows h.1) | false ↦ before-filter p t rows h.1 ]

rows-filter : (p : PathRow → Bool) (rows : List PathRow) → AreRows rows → AreRows (filter p rows)
unfolding IsStrictlySortedBy
rows-filter p [] h = tt
rows-filter p (r ∷ rows) h = elim (p r) as (λ b. AreRows (cond b (r ∷ filter p rows) (filter p rows))) [ true ↦ (before-filter p r.path rows h.0, rows-filter p rows h.1) | false ↦ rows-filter p rows h.1 ]

before_get : (t : Path) (rows : List PathRow) (i : ℕ) (d : PathRow) → IsBefore t rows → i < length rows → path_cmp t (get_or rows i d).path ≡ Less
before_get t [] i d h l = absurd (omega arith)
before_get t (r ∷ rows) zero d h l = h.0
before_get t (r ∷ rows) (suc i) d h l = before_get t rows i d h.1 (omega arith)

paths_rise : (rows : List PathRow) (i j : ℕ) (d : PathRow) → AreRows rows → i < j → j < length rows → path_cmp (get_or rows i d).path (get_or rows j d).path ≡ Less
unfolding IsStrictlySortedBy
paths_rise [] i j d h less l = absurd (omega arith)
paths_rise (r ∷ rows) i zero d h less l = absurd (omega arith)
paths_rise (r ∷ rows) zero (suc j) d h less l = before_get r.path rows j d h.0 (omega arith)
paths_rise (r ∷ rows) (suc i) (suc j) d h less l = paths_rise rows i j d h.1 (omega arith) (omega arith)

-- the rows below a path, and those above it

abbrev pub under : Path → List PathRow → List PathRow
under t rows = filter (λ r. is_lt (path_cmp r.path t)) rows

abbrev pub above : Path → List PathRow → List PathRow
above t rows = filter (λ r. is_gt (path_cmp r.path t)) rows

none_under : (t : Path) (rows : List PathRow) → IsBefore t rows → under t rows ≡ []
none_under t [] h = refl
none_under t (r ∷ rows) h = ap (λ o. cond (is_lt o) (r ∷ under t rows) (under t rows)) (above_turned t r.path h.0) ∙ none_under t rows h.1

all_above : (t : Path) (rows : List PathRow) → IsBefore t rows → above t rows ≡ rows
all_above t [] h = refl
all_above t (r ∷ rows) h = ap (λ o. cond (is_gt o) (r ∷ above t rows) (above t rows)) (above_turned t r.path h.0) ∙ ap (λ rs. r ∷ rs) (all_above t rows h.1)

above_before : (t : Path) (rows : List PathRow) → IsBefore t (above t rows)
above_before t [] = tt
above_before t (r ∷ rows) =
    elim (path_cmp r.path t) as (λ o. path_cmp r.path t ≡ o → IsBefore t (cond (is_gt o) (r ∷ above t rows) (above t rows))) [
      | Less ↦ λ _. above_before t rows
      | Equal ↦ λ _. above_before t rows
      | Greater ↦ λ is. (below_turned r.path t is, above_before t rows)
    ] refl

abbrev AllBelow : List PathRow → Path → Type 0
AllBelow [] t = Unit {0}
AllBelow (r ∷ rows) t = (path_cmp r.path t ≡ Less) × AllBelow rows t

under_below : (t : Path) (rows : List PathRow) → AllBelow (under t rows) t
under_below t [] = tt
under_below t (r ∷ rows) =
    elim (path_cmp r.path t) as (λ o. path_cmp r.path t ≡ o → AllBelow (cond (is_lt o) (r ∷ under t rows) (under t rows)) t) [
      | Less ↦ λ is. (is, under_below t rows)
      | Equal ↦ λ _. under_below t rows
      | Greater ↦ λ _. under_below t rows
    ] refl

joined_rows : (xs : List PathRow) (y : PathRow) (ys : List PathRow) → AreRows xs → AllBelow xs y.path → AreRows (y ∷ ys) → AreRows (xs ++ y ∷ ys)
unfolding IsStrictlySortedBy
joined_rows [] y ys h b g = g
joined_rows (x ∷ xs) y ys h b g = (before-append x.path xs (y ∷ ys) h.0 (b.0, before_further x.path y.path ys b.0 g.0), joined_rows xs y ys h.1 b.1 g)

pub placed_rows : (t : Path) (row : Row) (rows : List PathRow) → AreRows rows → AreRows (rows_with t row rows)
unfolding IsStrictlySortedBy
placed_rows t row rows h =
    joined_rows (under t rows) (record { path = t; row = row }) (above t rows) (rows-filter (λ r. is_lt (path_cmp r.path t)) rows h) (under_below t rows) (above_before t rows, rows-filter (λ r. is_gt (path_cmp r.path t)) rows h)

-- the place of a path

row_at_place : (t : Path) (rows : List PathRow) (i : ℕ) (d : PathRow) → AreRows rows → i < length rows → (get_or rows i d).path ≡ t → row_of t rows ≡ Some (get_or rows i d).row
unfolding IsStrictlySortedBy
row_at_place t [] i d h l is = absurd (omega arith)
row_at_place t (r ∷ rows) zero d h l is = ap (λ b. if b then Some r.row else row_of t rows) (same_here r.path t is)
row_at_place t (r ∷ rows) (suc i) d h l is =
    let further : path_cmp r.path t ≡ Less = subst (λ (w : Path). path_cmp r.path w ≡ Less) is (before_get r.path rows i d h.0 (omega arith)) in
    ap (λ b. if b then Some r.row else row_of t rows) (below_apart r.path t further) ∙ row_at_place t rows i d h.1 (omega arith) is

place_at : (t : Path) (rows : List PathRow) (i : ℕ) (d : PathRow) → AreRows rows → i < length rows → (get_or rows i d).path ≡ t → place_of t rows ≡ Some i
unfolding IsStrictlySortedBy
place_at t [] i d h l is = absurd (omega arith)
place_at t (r ∷ rows) zero d h l is = ap (λ b. if b then Some 0 else option_map suc (place_of t rows)) (same_here r.path t is)
place_at t (r ∷ rows) (suc i) d h l is =
    let further : path_cmp r.path t ≡ Less = subst (λ (w : Path). path_cmp r.path w ≡ Less) is (before_get r.path rows i d h.0 (omega arith)) in
    ap (λ b. if b then Some 0 else option_map suc (place_of t rows)) (below_apart r.path t further) ∙ ap (option_map suc) (place_at t rows i d h.1 (omega arith) is)

set_place : (t : Path) (row : Row) (rows : List PathRow) (i : ℕ) (d : PathRow) → AreRows rows → i < length rows → (get_or rows i d).path ≡ t → set rows i (record { path = t; row = row }) ≡ rows_with t row rows
unfolding IsStrictlySortedBy
set_place t row [] i d h l is = absurd (omega arith)
set_place t row (r ∷ rows) zero d h l is =
    let here : path_cmp r.path t ≡ Equal = subst (λ (w : Path). path_cmp r.path w ≡ Equal) is (order_itself r.path) in
    let later : IsBefore t rows = subst (λ (w : Path). IsBefore w rows) is h.0 in
    sym (ap (λ o. cond (is_lt o) (r ∷ under t rows) (under t rows) ++ record { path = t; row = row } ∷ cond (is_gt o) (r ∷ above t rows) (above t rows)) here
    ∙ ap (λ rs. rs ++ record { path = t; row = row } ∷ above t rows) (none_under t rows later)
    ∙ ap (λ rs. record { path = t; row = row } ∷ rs) (all_above t rows later))
set_place t row (r ∷ rows) (suc i) d h l is =
    let further : path_cmp r.path t ≡ Less = subst (λ (w : Path). path_cmp r.path w ≡ Less) is (before_get r.path rows i d h.0 (omega arith)) in
    ap (λ rs. r ∷ rs) (set_place t row rows i d h.1 (omega arith) is)
    ∙ sym (ap (λ o. cond (is_lt o) (r ∷ under t rows) (under t rows) ++ record { path = t; row = row } ∷ cond (is_gt o) (r ∷ above t rows) (above t rows)) further)

-- without the row at a place, the rows of other paths are left

none_dropped : (t : Path) (rows : List PathRow) → IsBefore t rows → rows_without t rows ≡ rows
none_dropped t [] h = refl
none_dropped t (r ∷ rows) h = ap (λ b. cond (not b) (r ∷ rows_without t rows) (rows_without t rows)) (above_apart r.path t (above_turned t r.path h.0)) ∙ ap (λ rs. r ∷ rs) (none_dropped t rows h.1)

remove_place : (t : Path) (rows : List PathRow) (i : ℕ) (d : PathRow) → AreRows rows → i < length rows → (get_or rows i d).path ≡ t → remove rows i ≡ rows_without t rows
unfolding IsStrictlySortedBy
remove_place t [] i d h l is = absurd (omega arith)
remove_place t (r ∷ rows) zero d h l is =
    let later : IsBefore t rows = subst (λ (w : Path). IsBefore w rows) is h.0 in
    sym (ap (λ b. cond (not b) (r ∷ rows_without t rows) (rows_without t rows)) (same_here r.path t is) ∙ none_dropped t rows later)
remove_place t (r ∷ rows) (suc i) d h l is =
    let further : path_cmp r.path t ≡ Less = subst (λ (w : Path). path_cmp r.path w ≡ Less) is (before_get r.path rows i d h.0 (omega arith)) in
    ap (λ rs. r ∷ rs) (remove_place t rows i d h.1 (omega arith) is)
    ∙ sym (ap (λ b. cond (not b) (r ∷ rows_without t rows) (rows_without t rows)) (below_apart r.path t further))

-- the gap for a path

all_over : (t : Path) (rows : List PathRow) → ((k : ℕ) (d : PathRow) → k < length rows → path_cmp (get_or rows k d).path t ≡ Greater) → (under t rows ≡ []) × (above t rows ≡ rows)
all_over t [] h = (refl, refl)
all_over t (r ∷ rows) h =
    let rest = all_over t rows (λ k d l. h (suc k) d (omega arith)) in
    let here : path_cmp r.path t ≡ Greater = h 0 r (omega arith) in
    (ap (λ o. cond (is_lt o) (r ∷ under t rows) (under t rows)) here ∙ rest.0, ap (λ o. cond (is_gt o) (r ∷ above t rows) (above t rows)) here ∙ ap (λ rs. r ∷ rs) rest.1)

gap_after : (t : Path) (r : PathRow) (rows : List PathRow) (i : ℕ) → IsGap t (r ∷ rows) (suc i) → IsGap t rows i
gap_after t r rows i g = record { in_range = omega (arith, g.in_range); below = λ k d low high. g.below (suc k) d (omega arith) (omega arith); above = λ k d low high. g.above (suc k) d (omega arith) (omega arith) }

gap_first : (t : Path) (r : PathRow) (rows : List PathRow) → IsGap t (r ∷ rows) zero → IsGap t rows zero
gap_first t r rows g = record { in_range = omega arith; below = λ k d low high. absurd (omega arith); above = λ k d low high. g.above (suc k) d (omega arith) (omega arith) }

pub insert_gap : (t : Path) (row : Row) (rows : List PathRow) (i : ℕ) → IsGap t rows i → insert rows i (record { path = t; row = row }) ≡ rows_with t row rows
insert_gap t row [] zero g = refl
insert_gap t row [] (suc i) g = absurd (omega (arith, g.in_range))
insert_gap t row (r ∷ rows) zero g =
    let over = all_over t (r ∷ rows) (λ k d l. g.above k d (omega arith) l) in
    sym (ap (λ rs. rs ++ record { path = t; row = row } ∷ above t (r ∷ rows)) over.0 ∙ ap (λ rs. record { path = t; row = row } ∷ rs) over.1)
insert_gap t row (r ∷ rows) (suc i) g =
    let below : path_cmp r.path t ≡ Less = g.below 0 r (omega arith) (omega arith) in
    ap (λ rs. r ∷ rs) (insert_gap t row rows i (gap_after t r rows i g))
    ∙ sym (ap (λ o. cond (is_lt o) (r ∷ under t rows) (under t rows) ++ record { path = t; row = row } ∷ cond (is_gt o) (r ∷ above t rows) (above t rows)) below)

-- no row has a path that has a gap

apart_in_gap : (t : Path) (r : PathRow) (rows : List PathRow) (i : ℕ) → IsGap t (r ∷ rows) i → is_same_path r.path t ≡ false
apart_in_gap t r rows zero g = above_apart r.path t (g.above 0 r (omega arith) (omega arith))
apart_in_gap t r rows (suc i) g = below_apart r.path t (g.below 0 r (omega arith) (omega arith))

gap_rest : (t : Path) (r : PathRow) (rows : List PathRow) (i : ℕ) → IsGap t (r ∷ rows) i → record { at : ℕ; gap : IsGap t rows at }
gap_rest t r rows zero g = record { at = 0; gap = gap_first t r rows g }
gap_rest t r rows (suc i) g = record { at = i; gap = gap_after t r rows i g }

pub no_row_in_gap : (t : Path) (rows : List PathRow) (i : ℕ) → IsGap t rows i → row_of t rows ≡ None
no_row_in_gap t [] i g = refl
no_row_in_gap t (r ∷ rows) i g = let rest = gap_rest t r rows i g in ap (λ b. if b then Some r.row else row_of t rows) (apart_in_gap t r rows i g) ∙ no_row_in_gap t rows rest.at rest.gap

pub no_place_in_gap : (t : Path) (rows : List PathRow) (i : ℕ) → IsGap t rows i → place_of t rows ≡ None
no_place_in_gap t [] i g = refl
no_place_in_gap t (r ∷ rows) i g = let rest = gap_rest t r rows i g in ap (λ b. if b then Some 0 else option_map suc (place_of t rows)) (apart_in_gap t r rows i g) ∙ ap (option_map suc) (no_place_in_gap t rows rest.at rest.gap)

pub all_left_in_gap : (t : Path) (rows : List PathRow) (i : ℕ) → IsGap t rows i → rows_without t rows ≡ rows
all_left_in_gap t [] i g = refl
all_left_in_gap t (r ∷ rows) i g =
    let rest = gap_rest t r rows i g in
    ap (λ b. cond (not b) (r ∷ rows_without t rows) (rows_without t rows)) (apart_in_gap t r rows i g) ∙ ap (λ rs. r ∷ rs) (all_left_in_gap t rows rest.at rest.gap)

-- another row in the place of one

pub set_row : (rows : List PathRow) (i : ℕ) (d : PathRow) (row : Row) → i < length rows → set rows i (record { path = (get_or rows i d).path; row = row }) ≡ with_row_at i row rows
set_row [] i d row l = absurd (omega arith)
set_row (r ∷ rows) zero d row l = refl
set_row (r ∷ rows) (suc i) d row l = ap (λ rs. r ∷ rs) (set_row rows i d row (omega arith))

same_paths : (rows : List PathRow) (i : ℕ) (row : Row) → paths_of_rows (with_row_at i row rows) ≡ paths_of_rows rows
same_paths [] i row = refl
same_paths (r ∷ rows) zero row = refl
same_paths (r ∷ rows) (suc i) row = ap (λ ps. r.path ∷ ps) (same_paths rows i row)

-- what a binary search by the paths finds
searches_rise : (t : Path) (rows : List PathRow) → AreRows rows → IsNonDecreasingBy (λ r. ordering_index (path_cmp r.path t)) rows
searches_rise t rows h i j d le l =
    elim (ltb i j) as (λ b. ltb i j ≡ b → ordering_index (path_cmp (get_or rows i d).path t) ≤ ordering_index (path_cmp (get_or rows j d).path t)) [
      | true ↦ λ is. order_rises (get_or rows i d).path (get_or rows j d).path t (paths_rise rows i j d h (ltb-true i j is) l)
      | false ↦ λ is. let same : i ≡ j = omega (arith, ltb-false i j is) in subst (λ (k : ℕ). ordering_index (path_cmp (get_or rows i d).path t) ≤ ordering_index (path_cmp (get_or rows k d).path t)) same (omega arith)
    ] refl

pub searched : (t : Path) (rows : List PathRow) (r : Result ℕ ℕ) → AreRows rows → IsSearchInRange r (length rows) → IsBinarySearchResult (λ r. path_cmp r.path t) rows r → record { found : IfOk r (IsPlace t rows); missing : IfErr r (IsGap t rows) }
searched t rows (Ok i) h within equal = record { found = record { in_range = within; has_path = λ d. path_cmp_exact (get_or rows i d).path t (equal d) }; missing = tt }
searched t rows (Err i) h within parted =
    let parts = parted (searches_rise t rows h) in
    record { found = tt; missing = record { in_range = within; below = parts.0; above = parts.1 } }

pub no_rows_ascend : AreRows []
unfolding IsStrictlySortedBy
no_rows_ascend = tt

-- what is at a place

first_of_place : (t : Path) (rows : List PathRow) (i : ℕ) → IsPlace t rows i → PathRow
first_of_place t [] i p = absurd (omega (arith, p.in_range))
first_of_place t (r ∷ rows) i p = r

pub place_found : (t : Path) (rows : List PathRow) (i : ℕ) → AreRows rows → IsPlace t rows i → place_of t rows ≡ Some i
place_found t rows i h p = let d = first_of_place t rows i p in place_at t rows i d h p.in_range (p.has_path d)

pub place_rewritten : (t : Path) (row : Row) (rows : List PathRow) (i : ℕ) → AreRows rows → IsPlace t rows i → set rows i (record { path = t; row = row }) ≡ rows_with t row rows
place_rewritten t row rows i h p = let d = first_of_place t rows i p in set_place t row rows i d h p.in_range (p.has_path d)

pub place_removed : (t : Path) (rows : List PathRow) (i : ℕ) → AreRows rows → IsPlace t rows i → remove rows i ≡ rows_without t rows
place_removed t rows i h p = let d = first_of_place t rows i p in remove_place t rows i d h p.in_range (p.has_path d)

pub place_read : (t : Path) (rows : List PathRow) (i : ℕ) (d : PathRow) → AreRows rows → IsPlace t rows i → row_of t rows ≡ Some (get_or rows i d).row
place_read t rows i d h p = row_at_place t rows i d h p.in_range (p.has_path d)

pub rows_left : (t : Path) (rows : List PathRow) → AreRows rows → AreRows (rows_without t rows)
rows_left t rows = rows-filter (λ r. not (is_same_path r.path t)) rows

pub rows_with_one_set : (rows : List PathRow) (i : ℕ) (row : Row) → AreRows rows → AreRows (with_row_at i row rows)
rows_with_one_set rows i row = subst (IsStrictlySortedBy path_cmp) (sym (same_paths rows i row))
