-- A set of owned names, seen as the set of what they say.
use Rattle.std.proofs.Common.{◌≡◌, ℕ, List, [], ◌∷◌, Bool, true, false, ◌||◌, map, refl, sym, ap, ◌∙◌}
use Rattle.std.specs.Ordering.{is_eq, match_ordering}
use Rattle.std.specs.declared.cmp.Ordering.{Ordering}
use Rattle.std.specs.declared.cmp.Ordering.TheVariants.{Less, Equal, Greater}
use Rattle.std.specs.BTreeSet.{insert_key}
use Rattle.std.specs.Cmp.Lexicographic.{nat_list_cmp_total}
use Rattle.std.specs.List.{list_any}
use Rattle.std.specs.FinSet as set
use Rattle.std.specs.FinSet.{nat_cmp-IsAntisymmetric, slice_cmp-IsAntisymmetric}
use Rattle.hd_usda.proofs.SeenNames.{name_cmp, contains_seen}

swap : (a b c : Bool) → (a || (b || c)) ≡ (b || (a || c))
swap true true c = refl
swap true false c = refl
swap false b c = refl

absorbed : (a b c : Bool) → a ≡ b → (b || c) ≡ (a || (b || c))
absorbed true b c h = rw (← h) refl
absorbed false b c h = refl

any_insert : {K : Type 0} (now : K → List ℕ) (cmp : K → K → Ordering) → ((x y : K) → cmp x y ≡ name_cmp (now x) (now y)) → (q : List ℕ) (k : K) (ks : List K)
    → list_any (λ x. is_eq (name_cmp q (now x))) (insert_key cmp ks k) ≡ (is_eq (name_cmp q (now k)) || list_any (λ x. is_eq (name_cmp q (now x))) ks)
any_insert now cmp tied q k [] = refl
any_insert {K} now cmp tied q k (x ∷ xs) = step (any_insert now cmp tied q k xs) (cmp k x) refl
  where
    at : K → Bool
    at y = is_eq (name_cmp q (now y))

    step : list_any at (insert_key cmp xs k) ≡ (at k || list_any at xs) → (o : Ordering) → cmp k x ≡ o → list_any at (match_ordering o (k ∷ x ∷ xs) (x ∷ xs) (x ∷ insert_key cmp xs k)) ≡ (at k || (at x || list_any at xs))
    step more Less h = refl
    step more Equal h = absorbed (at k) (at x) (list_any at xs) (ap (λ n. is_eq (name_cmp q n)) (slice_cmp-IsAntisymmetric nat_cmp-IsAntisymmetric (now k) (now x) (sym (tied k x) ∙ h)))
    step more Greater h = ap (λ b. at x || b) more ∙ swap (at x) (at k) (list_any at xs)

pub insert_owned : {K : Type 0} (now : K → List ℕ) (cmp : K → K → Ordering) → ((x y : K) → cmp x y ≡ name_cmp (now x) (now y)) → (ks ls : List K) (k : K) → ls ≡ insert_key cmp ks k
    → set.from_list {R = name_cmp} (map now ls) ≡ set.insert (set.from_list (map now ks)) (now k)
insert_owned now cmp tied ks ls k is = set.same_set nat_list_cmp_total (slice_cmp-IsAntisymmetric nat_cmp-IsAntisymmetric) (set.from_list (map now ls)) (set.insert (set.from_list (map now ks)) (now k)) (λ q.
    contains_seen now ls q ∙ ap (list_any (λ x. is_eq (name_cmp q (now x)))) is ∙ any_insert now cmp tied q k ks
    ∙ ap (λ b. is_eq (name_cmp q (now k)) || b) (sym (contains_seen now ks q))
    ∙ sym (set.contains-insert nat_list_cmp_total (set.from_list (map now ks)) (now k) q))
