-- Maps whose entries ascend, and lists that do.
use Rattle.std.proofs.Common.{◌≡◌, Bool, true, false, cond, T, ◌&&◌, ◌||◌, List, [], ◌∷◌, length, map, Some, None, refl, sym, ◌∙◌, ap, subst, arith}
use Rattle.std.specs.List.{AllByRecursion, list_any}
use Rattle.std.specs.List.Sorted.{IsStrictlySortedBy}
use Rattle.std.specs.Map.{keys_of}
use Rattle.std.specs.Ordering.{eq_by_cmp, is_lt}
use Rattle.std.specs.declared.cmp.Ordering.{Ordering}
use Rattle.std.specs.declared.cmp.Ordering.TheVariants.{Less, Equal, Greater}
use Rattle.std.specs.Cmp.{IsTotalOrder}
use Rattle.std.specs.FinMap.{FinMap, IsAntisymmetric, entries, keys, empty, from_entries, get-from_entries, len-empty, len-entries, entries-insert, entries_sorted, same_map}
use Rattle.std.specs.FinMap.Entries.{put, by_order, find, is_sorted, below_all}

pub is_less : (o : Ordering) → T (is_lt o) → o ≡ Less
is_less Less h = refl
is_less Equal h = absurd h
is_less Greater h = absurd h

first : (a b : Bool) → T (a && b) → T a
first true b h = tt
first false b h = h

second : (a b : Bool) → T (a && b) → T b
second true b h = h
second false b h = absurd h

none_of_length : {A : Type 0} (es : List A) → length es ≡ 0 → es ≡ []
none_of_length [] h = refl
none_of_length (e ∷ es) h = absurd (omega arith)

module _ {K X : Type 0} (R : K → K → Ordering) where
  above : (k : K) (es : List (K × X)) → T (below_all R k es) → AllByRecursion (λ y. R k y ≡ Less) (keys_of es)
  above k [] h = tt
  above k (e ∷ es) h = (is_less (R k e.0) (first (is_lt (R k e.0)) (below_all R k es) h), above k es (second (is_lt (R k e.0)) (below_all R k es) h))

  ascend : (es : List (K × X)) → T (is_sorted R es) → IsStrictlySortedBy R (keys_of es)
  unfolding IsStrictlySortedBy
  ascend [] h = tt
  ascend (e ∷ es) h = (above e.0 es (first (below_all R e.0 es) (is_sorted R es) h), ascend es (second (below_all R e.0 es) (is_sorted R es) h))

  put_first : (e : K × X) (es : List (K × X)) → AllByRecursion (λ y. R e.0 y ≡ Less) (keys_of es) → put R e.0 e.1 es ≡ e ∷ es
  put_first e [] h = refl
  put_first e (f ∷ es) h = ap (λ r. by_order r (e ∷ f ∷ es) ((f.0, e.1) ∷ es) (f ∷ put R e.0 e.1 es)) h.0

-- the keys of a map ascend
pub keys_ascend : {K X : Type 0} {R : K → K → Ordering} (m : FinMap R X) → IsStrictlySortedBy R (keys m)
keys_ascend {R = R} m = ascend R (entries m) (entries_sorted m)

-- entries that ascend are those of their map
pub entries-from_entries : {K X : Type 0} {R : K → K → Ordering} → IsTotalOrder R → (es : List (K × X)) → IsStrictlySortedBy R (keys_of es) → entries (from_entries {R = R} es) ≡ es
unfolding IsStrictlySortedBy
entries-from_entries {X = X} {R = R} o [] h = none_of_length (entries (empty {X = X} {R = R})) (sym (len-entries (empty {X = X} {R = R})) ∙ len-empty R X)
entries-from_entries {R = R} o (e ∷ es) h = entries-insert o (from_entries es) e.0 e.1 ∙ ap (put R e.0 e.1) (entries-from_entries o es h.1) ∙ put_first R e es h.0

-- the list as the keys of entries
marked : {K : Type 0} → List K → List (K × Bool)
marked xs = map (λ x. (x, true)) xs

keys_of-marked : {K : Type 0} (xs : List K) → keys_of (marked xs) ≡ xs
unfolding marked
keys_of-marked [] = refl
keys_of-marked (x ∷ xs) = ap (λ ys. x ∷ ys) (keys_of-marked xs)

find-marked : {K : Type 0} (R : K → K → Ordering) (q : K) (xs : List K) → find R q (marked xs) ≡ cond (list_any (eq_by_cmp R q) xs) (Some true) None
unfolding marked
find-marked R q [] = refl
find-marked R q (x ∷ xs) = elim (eq_by_cmp R q x) as (λ b. cond b (Some true) (find R q (marked xs)) ≡ cond (b || list_any (eq_by_cmp R q) xs) (Some true) None) [
  | true ↦ refl
  | false ↦ find-marked R q xs
]

-- two lists that ascend and have the same elements are one
pub same_ascending : {K : Type 0} {R : K → K → Ordering} → IsTotalOrder R → IsAntisymmetric R → (xs ys : List K) → IsStrictlySortedBy R xs → IsStrictlySortedBy R ys
    → ((q : K) → list_any (eq_by_cmp R q) xs ≡ list_any (eq_by_cmp R q) ys) → xs ≡ ys
same_ascending {R = R} o exact xs ys x_ascends y_ascends same =
    let as_map = same_map o exact (from_entries {R = R} (marked xs)) (from_entries (marked ys)) (λ q.
    get-from_entries o (marked xs) q ∙ find-marked R q xs ∙ ap (λ b. cond b (Some true) None) (same q) ∙ sym (find-marked R q ys) ∙ sym (get-from_entries o (marked ys) q)) in
    sym (keys_of-marked xs)
    ∙ ap keys_of (sym (entries-from_entries o (marked xs) (subst (IsStrictlySortedBy R) (sym (keys_of-marked xs)) x_ascends)) ∙ ap entries as_map ∙ entries-from_entries o (marked ys) (subst (IsStrictlySortedBy R) (sym (keys_of-marked ys)) y_ascends))
    ∙ keys_of-marked ys
