-- The row of a path, after a row was put or taken.
use Rattle.std.proofs.Common.{◌≡◌, ◌≢◌, ℕ, suc, Bool, true, false, cond, if◌then◌else◌, not, filter, List, [], ◌∷◌, ◌++◌, Option, Some, None, refl, ap, sym, subst, ◌∙◌}
use Rattle.std.proofs.lemmas.Bool.{false≢true}
use Rattle.std.proofs.lemmas.Option.{same_Some}
use Rattle.std.specs.Ordering.{is_lt, is_gt}
use Rattle.std.specs.declared.cmp.Ordering.{Ordering}
use Rattle.std.specs.declared.cmp.Ordering.TheVariants.{Less, Equal, Greater}
use Rattle.std.specs.Option.{option_map, option_or}
use Rattle.hd_path.specs.Paths.{Path, path_cmp}
use Rattle.hd_scene.specs.Tells.{is_same_path}
use Rattle.hd_scene.proofs.Prefixes.{is_same_path-decides}
use Rattle.hd_scene.proofs.Children.{path_cmp_exact}
use Rattle.hd_rprim.specs.declared.row.Row.{Row}
use Rattle.hd_rprim.specs.declared.row_table.PathRow.{PathRow}
use Rattle.hd_rprim.specs.Tables.{place_of, row_of}
use Rattle.hd_rprim.specs.Laws.{PutRowIsThere, PuttingKeepsOthers, TakenRowIsGone, TakingKeepsOthers, IsRowOf, NumbersNameRows, NoNumberNoRow}
use Rattle.hd_rprim.proofs.Sorting.{order_itself, same_here, under, above}

-- another path is not the same
other_path : (p q : Path) → p ≢ q → is_same_path p q ≡ false
other_path p q differ =
    elim (is_same_path p q) as (λ b. is_same_path p q ≡ b → b ≡ false) [ true ↦ λ is. absurd (differ ((is_same_path-decides p q).0 is)) | false ↦ λ _. refl ] refl

-- the row of a path in two lists of rows is that in the first, or else in the second
row_of-append : (p : Path) (xs ys : List PathRow) → row_of p (xs ++ ys) ≡ option_or (row_of p xs) (row_of p ys)
row_of-append p [] ys = refl
row_of-append p (x ∷ xs) ys =
    elim (is_same_path x.path p) as (λ b. (if b then Some x.row else row_of p (xs ++ ys)) ≡ option_or (if b then Some x.row else row_of p xs) (row_of p ys)) [
      | true ↦ refl
      | false ↦ row_of-append p xs ys
    ]

-- a filter that no row of a path passes leaves the path none
row_of-filter_out : (p : Path) (test : PathRow → Bool) (rows : List PathRow) → ((r : PathRow) → r.path ≡ p → test r ≡ false) → row_of p (filter test rows) ≡ None
row_of-filter_out p test [] fails = refl
row_of-filter_out p test (r ∷ rows) fails = by (test r) refl (row_of-filter_out p test rows fails)
  where
    by : (t : Bool) → test r ≡ t → row_of p (filter test rows) ≡ None → row_of p (cond t (r ∷ filter test rows) (filter test rows)) ≡ None
    by true passes none =
        ap (λ b. if b then Some r.row else row_of p (filter test rows)) (other_path r.path p (λ same. false≢true (sym (fails r same) ∙ passes))) ∙ none
    by false _ none = none

-- a filter that each row of a path passes keeps the path's row
row_of-filter_in : (p : Path) (test : PathRow → Bool) (rows : List PathRow) → ((r : PathRow) → r.path ≡ p → test r ≡ true) → row_of p (filter test rows) ≡ row_of p rows
row_of-filter_in p test [] passes = refl
row_of-filter_in p test (r ∷ rows) passes = by (test r) refl (row_of-filter_in p test rows passes)
  where
    by : (t : Bool) → test r ≡ t → row_of p (filter test rows) ≡ row_of p rows → row_of p (cond t (r ∷ filter test rows) (filter test rows)) ≡ row_of p (r ∷ rows)
    by true _ same = ap (λ o. if is_same_path r.path p then Some r.row else o) same
    by false fails same =
        same ∙ sym (ap (λ b. if b then Some r.row else row_of p rows) (other_path r.path p (λ here. false≢true (sym fails ∙ passes r here))))

-- the row of a path among the rows below another path, or above it, by the order of the two
row_under : (p t : Path) (rows : List PathRow) (b : Bool) → is_lt (path_cmp p t) ≡ b → row_of p (under t rows) ≡ (if b then row_of p rows else None)
row_under p t rows true is = row_of-filter_in p (λ r. is_lt (path_cmp r.path t)) rows (λ r same. ap (λ q. is_lt (path_cmp q t)) same ∙ is)
row_under p t rows false is = row_of-filter_out p (λ r. is_lt (path_cmp r.path t)) rows (λ r same. ap (λ q. is_lt (path_cmp q t)) same ∙ is)

row_above : (p t : Path) (rows : List PathRow) (b : Bool) → is_gt (path_cmp p t) ≡ b → row_of p (above t rows) ≡ (if b then row_of p rows else None)
row_above p t rows true is = row_of-filter_in p (λ r. is_gt (path_cmp r.path t)) rows (λ r same. ap (λ q. is_gt (path_cmp q t)) same ∙ is)
row_above p t rows false is = row_of-filter_out p (λ r. is_gt (path_cmp r.path t)) rows (λ r same. ap (λ q. is_gt (path_cmp q t)) same ∙ is)

pub put_row_is_there : PutRowIsThere
put_row_is_there path row rows =
    row_of-append path (under path rows) (record { path = path; row = row } ∷ above path rows)
    ∙ ap (λ o. option_or o (row_of path (record { path = path; row = row } ∷ above path rows))) (row_under path path rows false (ap is_lt (order_itself path)))
    ∙ ap (λ b. if b then Some row else row_of path (above path rows)) (same_here path path refl)

pub putting_keeps_others : PuttingKeepsOthers
putting_keeps_others path other row rows differ =
    row_of-append other (under path rows) (record { path = path; row = row } ∷ above path rows)
    ∙ ap (λ b. option_or (row_of other (under path rows)) (if b then Some row else row_of other (above path rows))) (other_path path other (λ same. differ (sym same)))
    ∙ by (path_cmp other path) refl
  where
    or_none : (o : Option Row) → option_or o None ≡ o
    or_none None = refl
    or_none (Some x) = refl

    by : (o : Ordering) → path_cmp other path ≡ o → option_or (row_of other (under path rows)) (row_of other (above path rows)) ≡ row_of other rows
    by Less is =
        ap (λ x. option_or x (row_of other (above path rows))) (row_under other path rows true (ap is_lt is))
        ∙ ap (option_or (row_of other rows)) (row_above other path rows false (ap is_gt is))
        ∙ or_none (row_of other rows)
    by Equal is = absurd (differ (path_cmp_exact other path is))
    by Greater is =
        ap (λ x. option_or x (row_of other (above path rows))) (row_under other path rows false (ap is_lt is)) ∙ row_above other path rows true (ap is_gt is)

pub taken_row_is_gone : TakenRowIsGone
taken_row_is_gone path rows = row_of-filter_out path (λ r. not (is_same_path r.path path)) rows (λ r same. ap not (same_here r.path path same))

pub taking_keeps_others : TakingKeepsOthers
taking_keeps_others path other rows differ =
    row_of-filter_in other (λ r. not (is_same_path r.path path)) rows (λ r same. ap not (other_path r.path path (λ here. differ (sym same ∙ here))))

pub numbers_name_rows : NumbersNameRows
numbers_name_rows path [] i is = absurd (cc)
numbers_name_rows path (r ∷ rows) i is = by (is_same_path r.path path) refl is (numbers_name_rows path rows)
  where
    here : is_same_path r.path path ≡ true → IsRowOf path (r ∷ rows) 0
    here same = record { has_path = ap (λ p. Some p) ((is_same_path-decides r.path path).0 same); has_row = sym (ap (λ b. if b then Some r.row else row_of path rows) same) }

    later : (j : ℕ) → is_same_path r.path path ≡ false → IsRowOf path rows j → IsRowOf path (r ∷ rows) (suc j)
    later j apart found = record { has_path = found.has_path; has_row = found.has_row ∙ sym (ap (λ b. if b then Some r.row else row_of path rows) apart) }

    further : (place : Option ℕ) → is_same_path r.path path ≡ false → option_map suc place ≡ Some i → ((j : ℕ) → place ≡ Some j → IsRowOf path rows j) → IsRowOf path (r ∷ rows) i
    further None apart is rest = absurd (cc)
    further (Some j) apart is rest = subst (IsRowOf path (r ∷ rows)) (same_Some (suc j) i is) (later j apart (rest j refl))

    by : (b : Bool) → is_same_path r.path path ≡ b → (if b then Some 0 else option_map suc (place_of path rows)) ≡ Some i
        → ((j : ℕ) → place_of path rows ≡ Some j → IsRowOf path rows j) → IsRowOf path (r ∷ rows) i
    by true same is rest = subst (IsRowOf path (r ∷ rows)) (same_Some 0 i is) (here same)
    by false apart is rest = further (place_of path rows) apart is rest

pub no_number_no_row : NoNumberNoRow
no_number_no_row path [] is = refl
no_number_no_row path (r ∷ rows) is = by (is_same_path r.path path) is (no_number_no_row path rows)
  where
    none : (place : Option ℕ) → option_map suc place ≡ None → place ≡ None
    none None is = refl
    none (Some j) is = absurd (cc)

    by : (b : Bool) → (if b then Some 0 else option_map suc (place_of path rows)) ≡ None → (place_of path rows ≡ None → row_of path rows ≡ None)
        → (if b then Some r.row else row_of path rows) ≡ None
    by true is rest = absurd (cc)
    by false is rest = rest (none (place_of path rows) is)
