-- Entries in the order of their paths, and what one more of them leaves.
use Rattle.std.proofs.Common.{◌≡◌, suc, ◌+◌, ◌≤◌, Bool, true, false, ◌&&◌, ◌||◌, List, [], ◌∷◌, map, length, Ordering, Less, Equal, Greater, is_eq, is_lt, refl, sym, ap, ◌∙◌, arith}
use Rattle.std.proofs.lemmas.Bool.{and_from, and_parts}
use Rattle.std.proofs.lemmas.Cmp.{nat_list_cmp_total, lists_total, tied_itself}
use Rattle.std.specs.Cmp.{IsTotalOrder}
use Rattle.std.specs.Ordering.{match_ordering, ordering_reverse}
use Rattle.std.specs.List.{list_all, list_any}
use Rattle.std.specs.BTreeMap.{insert_entry}
use Rattle.std.specs.FinSet.{nat_cmp-IsAntisymmetric, slice_cmp-IsAntisymmetric}
use Rattle.hd_layer.specs.declared.spec.PrimSpec.{PrimSpec}
use Rattle.hd_path.specs.Paths.{path_cmp, Path}
use Rattle.hd_layer.specs.WellFormed.{ascend}

abbrev pub Entries : Type 0
Entries = List (Path × PrimSpec)

abbrev pub keys : Entries → List Path
keys es = map (λ e. e.0) es

abbrev pub with_entry : Entries → Path → PrimSpec → Entries
with_entry es q v = insert_entry path_cmp es q v

path_total : IsTotalOrder path_cmp
path_total = lists_total nat_list_cmp_total

pub same_path : (p q : Path) → path_cmp p q ≡ Equal → p ≡ q
same_path = slice_cmp-IsAntisymmetric (slice_cmp-IsAntisymmetric nat_cmp-IsAntisymmetric)

pub equal_path : (p q : Path) → is_eq (path_cmp p q) ≡ true → p ≡ q
equal_path p q h = same_path p q (by_order (path_cmp p q) h)
  where
    by_order : (o : Ordering) → is_eq o ≡ true → o ≡ Equal
    by_order Less h = absurd (cc)
    by_order Equal h = refl
    by_order Greater h = absurd (cc)

less : (o : Ordering) → is_lt o ≡ true → o ≡ Less
less Less h = refl
less Equal h = absurd (cc)
less Greater h = absurd (cc)

pub itself : (p : Path) → is_eq (path_cmp p p) ≡ true
itself p = ap is_eq (tied_itself path_total p)

-- what each key passes, it does with one more that passes
pub keys_pass : (test : Path → Bool) (es : Entries) (q : Path) (v : PrimSpec) → list_all test (keys es) ≡ true → test q ≡ true → list_all test (keys (with_entry es q v)) ≡ true
keys_pass test [] q v h t = and_from (test q) true t refl
keys_pass test (e ∷ es) q v h t = step (path_cmp q e.0) (keys_pass test es q v both.1 t)
  where
    both : (test e.0 ≡ true) × (list_all test (keys es) ≡ true)
    both = and_parts (test e.0) (list_all test (keys es)) h

    step : (o : Ordering) → list_all test (keys (with_entry es q v)) ≡ true → list_all test (keys (match_ordering o ((q, v) ∷ e ∷ es) ((e.0, v) ∷ es) (e ∷ with_entry es q v))) ≡ true
    step Less more = and_from (test q) (test e.0 && list_all test (keys es)) t h
    step Equal more = h
    step Greater more = and_from (test e.0) (list_all test (keys (with_entry es q v))) both.0 more

pub values_pass : (test : PrimSpec → Bool) (es : Entries) (q : Path) (v : PrimSpec) → list_all test (map (λ e. e.1) es) ≡ true → test v ≡ true → list_all test (map (λ e. e.1) (with_entry es q v)) ≡ true
values_pass test [] q v h t = and_from (test v) true t refl
values_pass test (e ∷ es) q v h t = step (path_cmp q e.0) (values_pass test es q v both.1 t)
  where
    both : (test e.1 ≡ true) × (list_all test (map (λ e. e.1) es) ≡ true)
    both = and_parts (test e.1) (list_all test (map (λ e. e.1) es)) h

    step : (o : Ordering) → list_all test (map (λ e. e.1) (with_entry es q v)) ≡ true → list_all test (map (λ e. e.1) (match_ordering o ((q, v) ∷ e ∷ es) ((e.0, v) ∷ es) (e ∷ with_entry es q v))) ≡ true
    step Less more = and_from (test v) (test e.1 && list_all test (map (λ e. e.1) es)) t h
    step Equal more = and_from (test v) (list_all test (map (λ e. e.1) es)) t both.1
    step Greater more = and_from (test e.1) (list_all test (map (λ e. e.1) (with_entry es q v))) both.0 more

-- what is after a later path is after an earlier one
all_after : (p q : Path) (ps : List Path) → path_cmp p q ≡ Less → list_all (λ next. is_lt (path_cmp q next)) ps ≡ true → list_all (λ next. is_lt (path_cmp p next)) ps ≡ true
all_after p q [] before h = refl
all_after p q (r ∷ ps) before h =
    let both = and_parts (is_lt (path_cmp q r)) (list_all (λ next. is_lt (path_cmp q next)) ps) h in
    and_from (is_lt (path_cmp p r)) (list_all (λ next. is_lt (path_cmp p next)) ps) (ap is_lt (path_total.trans p q r before (less (path_cmp q r) both.0))) (all_after p q ps before both.1)

pub stay_ordered : (es : Entries) (q : Path) (v : PrimSpec) → ascend (keys es) ≡ true → ascend (keys (with_entry es q v)) ≡ true
stay_ordered [] q v h = refl
stay_ordered (e ∷ es) q v h = step (path_cmp q e.0) refl (stay_ordered es q v both.1)
  where
    both : (list_all (λ next. is_lt (path_cmp e.0 next)) (keys es) ≡ true) × (ascend (keys es) ≡ true)
    both = and_parts (list_all (λ next. is_lt (path_cmp e.0 next)) (keys es)) (ascend (keys es)) h

    step : (o : Ordering) → path_cmp q e.0 ≡ o → ascend (keys (with_entry es q v)) ≡ true → ascend (keys (match_ordering o ((q, v) ∷ e ∷ es) ((e.0, v) ∷ es) (e ∷ with_entry es q v))) ≡ true
    step Less is more = and_from (list_all (λ next. is_lt (path_cmp q next)) (e.0 ∷ keys es)) (ascend (e.0 ∷ keys es))
        (and_from (is_lt (path_cmp q e.0)) (list_all (λ next. is_lt (path_cmp q next)) (keys es)) (ap is_lt is) (all_after q e.0 (keys es) is both.0)) h
    step Equal is more = h
    step Greater is more = and_from (list_all (λ next. is_lt (path_cmp e.0 next)) (keys (with_entry es q v))) (ascend (keys (with_entry es q v)))
        (keys_pass (λ next. is_lt (path_cmp e.0 next)) es q v both.0 (ap is_lt (path_total.antisymm e.0 q ∙ ap ordering_reverse is))) more

-- the path is one of the keys
abbrev pub among : List Path → Path → Bool
among ps p = list_any (λ other. is_eq (path_cmp p other)) ps

swap : (a b c : Bool) → (a || (b || c)) ≡ (b || (a || c))
swap true true c = refl
swap true false c = refl
swap false b c = refl

absorbed : (a b c : Bool) → a ≡ b → (b || c) ≡ (a || (b || c))
absorbed true b c h = rw (← h) refl
absorbed false b c h = refl

pub one_more : (es : Entries) (q : Path) (v : PrimSpec) (p : Path) → among (keys (with_entry es q v)) p ≡ (is_eq (path_cmp p q) || among (keys es) p)
one_more [] q v p = refl
one_more (e ∷ es) q v p = step (path_cmp q e.0) refl (one_more es q v p)
  where
    at : Path → Bool
    at other = is_eq (path_cmp p other)

    step : (o : Ordering) → path_cmp q e.0 ≡ o → among (keys (with_entry es q v)) p ≡ (is_eq (path_cmp p q) || among (keys es) p)
        → among (keys (match_ordering o ((q, v) ∷ e ∷ es) ((e.0, v) ∷ es) (e ∷ with_entry es q v))) p ≡ (is_eq (path_cmp p q) || (is_eq (path_cmp p e.0) || among (keys es) p))
    step Less is more = refl
    step Equal is more = absorbed (is_eq (path_cmp p q)) (is_eq (path_cmp p e.0)) (among (keys es) p) (ap (λ r. is_eq (path_cmp p r)) (same_path q e.0 is))
    step Greater is more = ap (λ b. is_eq (path_cmp p e.0) || b) more ∙ swap (is_eq (path_cmp p e.0)) (is_eq (path_cmp p q)) (among (keys es) p)

pub one_longer : (es : Entries) (q : Path) (v : PrimSpec) → length (with_entry es q v) ≤ length es + 1
one_longer [] q v = omega arith
one_longer (e ∷ es) q v = step (path_cmp q e.0) (one_longer es q v)
  where
    step : (o : Ordering) → length (with_entry es q v) ≤ length es + 1 → length (match_ordering o ((q, v) ∷ e ∷ es) ((e.0, v) ∷ es) (e ∷ with_entry es q v)) ≤ suc (length es) + 1
    step Less more = omega arith
    step Equal more = omega arith
    step Greater more = omega arith

-- each prim is at its path
abbrev pub IsKeyed : Entries → Type 0
IsKeyed [] = Unit {0}
IsKeyed (e ∷ es) = (e.0 ≡ e.1.path) × IsKeyed es

pub stay_keyed : (es : Entries) (v : PrimSpec) → IsKeyed es → IsKeyed (with_entry es v.path v)
stay_keyed [] v h = (refl, tt)
stay_keyed (e ∷ es) v h = step (path_cmp v.path e.0) refl (stay_keyed es v h.1)
  where
    step : (o : Ordering) → path_cmp v.path e.0 ≡ o → IsKeyed (with_entry es v.path v) → IsKeyed (match_ordering o ((v.path, v) ∷ e ∷ es) ((e.0, v) ∷ es) (e ∷ with_entry es v.path v))
    step Less is more = (refl, h)
    step Equal is more = (sym (same_path v.path e.0 is), h.1)
    step Greater is more = (h.0, more)

pub keyed_paths : (es : Entries) → IsKeyed es → keys es ≡ map (λ p. p.path) (map (λ e. e.1) es)
keyed_paths [] h = refl
keyed_paths (e ∷ es) h = let one : e.0 ≡ e.1.path = h.0 in let more = keyed_paths es h.1 in cc
