-- Places of one depth that begin with one path are together.
use Rattle.std.proofs.Common.{◌≡◌, ℕ, Bool, true, false, cond, ◌&&◌, ◌==◌, List, [], ◌∷◌, ◌++◌, filter, refl, sym, ◌∙◌, ap, subst}
use Rattle.std.proofs.lemmas.Cmp.{nat_cmp_total, tied_itself}
use Rattle.std.proofs.lemmas.Bool.Decides.{Decides-eqb}
use Rattle.std.proofs.lemmas.List.Elements.{filter-append}
use Rattle.std.proofs.lemmas.List.Kept.{IsStrictlySortedBy-filter}
use Rattle.std.specs.Cmp.Lexicographic.{slice_cmp, nat_list_cmp_total}
use Rattle.std.specs.FinMap.{nat_cmp-IsAntisymmetric, slice_cmp-IsAntisymmetric}
use Rattle.std.specs.List.{AllByRecursion}
use Rattle.std.specs.List.Sorted.{IsStrictlySortedBy}
use Rattle.std.specs.Map.{keys_of}
use Rattle.std.specs.Ordering.{nat_cmp, is_le, ordering_then, ordering_reverse}
use Rattle.std.specs.declared.cmp.Ordering.{Ordering}
use Rattle.std.specs.declared.cmp.Ordering.TheVariants.{Less, Equal, Greater}
use Rattle.hd_path.specs.Names.{is_same}
use Rattle.hd_path.proofs.NamePrefixes.{same_text, same_itself, and_true}
use Rattle.hd_path.specs.Paths.{Path, path_cmp, is_prefix}
use Rattle.hd_path.proofs.Logic.{true_is_not}
use Rattle.hd_retained.specs.declared.stored.DepthKey.{DepthKey}
use Rattle.hd_retained.specs.declared.stored.StoredPrim.{StoredPrim}
use Rattle.hd_retained.specs.inner.Indexed.{depth_key_cmp, is_at_depth}
use Rattle.hd_retained.proofs.Listing.{and_is}

abbrev name_cmp : List ℕ → List ℕ → Ordering
name_cmp = slice_cmp nat_cmp

not_le : (r s : Ordering) → r ≡ Greater → is_le (ordering_then r s) ≡ false
not_le r s e = ap (λ (x : Ordering). is_le (ordering_then x s)) e

-- a prefix comes first
prefix_le : (p q : Path) → is_prefix p q ≡ true → is_le (path_cmp p q) ≡ true
prefix_le [] [] h = refl
prefix_le [] (y ∷ q) h = refl
prefix_le (x ∷ p) [] h = true_is_not (sym h)
prefix_le (x ∷ p) (y ∷ q) h =
    let both = and_true (is_same x y) (is_prefix p q) h in
    ap (λ (n : List ℕ). is_le (ordering_then (name_cmp x n) (path_cmp p q))) (sym (same_text x y both.0))
    ∙ ap (λ (r : Ordering). is_le (ordering_then r (path_cmp p q))) (tied_itself nat_list_cmp_total x)
    ∙ prefix_le p q both.1

-- what lies between a path and one that begins with it begins with it too
between_prefix : (p : Path) (k m : List (List ℕ)) → is_prefix p m ≡ true → is_le (path_cmp p k) ≡ true → is_le (path_cmp k m) ≡ true → is_prefix p k ≡ true
between_prefix [] k m h a b = refl
between_prefix (x ∷ p) [] m h a b = true_is_not (sym a)
between_prefix (x ∷ p) (y ∷ k) [] h a b = true_is_not (sym h)
between_prefix (x ∷ p) (y ∷ k) (z ∷ m) h a b =
    let both = and_true (is_same x z) (is_prefix p m) h in
    let below : is_le (ordering_then (name_cmp y x) (path_cmp k m)) ≡ true = ap (λ (n : List ℕ). is_le (ordering_then (name_cmp y n) (path_cmp k m))) (same_text x z both.0) ∙ b in
    elim (name_cmp x y) as (λ (r : Ordering). name_cmp x y ≡ r → is_le (ordering_then r (path_cmp p k)) ≡ true → (is_same x y && is_prefix p k) ≡ true) [
      | Less ↦ λ less _. true_is_not (sym below ∙ not_le (name_cmp y x) (path_cmp k m) (nat_list_cmp_total.antisymm y x ∙ ap ordering_reverse less))
      | Equal ↦ λ tie rest.
          let same : x ≡ y = slice_cmp-IsAntisymmetric nat_cmp-IsAntisymmetric x y tie in
          let later : is_le (path_cmp k m) ≡ true = sym (ap (λ (r : Ordering). is_le (ordering_then r (path_cmp k m))) (ap (name_cmp y) same ∙ tied_itself nat_list_cmp_total y)) ∙ below in
          and_is (is_same x y) (is_prefix p k) (ap (is_same x) (sym same) ∙ same_itself x) (between_prefix p k m both.1 rest later)
      | Greater ↦ λ _ no. true_is_not (sym no)
    ] refl a

pub same_number : (a b : ℕ) → (a == b) ≡ true → a ≡ b
same_number a b h = (Decides-eqb a b).0 h

abbrev pub start_at : ℕ → List (List ℕ) → DepthKey
start_at depth path = record { depth = depth; path = path }

-- the keys of the depth come after the one at which they would start
at_depth_le : (depth : ℕ) (path : Path) (k : DepthKey) → is_at_depth depth path k ≡ true → is_le (depth_key_cmp (start_at depth path) k) ≡ true
at_depth_le depth path k h =
    let both = and_true (k.depth == depth) (is_prefix path k.path) h in
    ap (λ (n : ℕ). is_le (ordering_then (nat_cmp n k.depth) (path_cmp path k.path))) (sym (same_number k.depth depth both.0))
    ∙ ap (λ (r : Ordering). is_le (ordering_then r (path_cmp path k.path))) (tied_itself nat_cmp_total k.depth)
    ∙ prefix_le path k.path both.1

less_le : (r : Ordering) → r ≡ Less → is_le r ≡ true
less_le r e = ap is_le e

then_less : (r s : Ordering) → r ≡ Greater → ordering_then r s ≡ Less → ⊥
then_less r s e h = let g : Greater ≡ Less = sym (ap (λ (x : Ordering). ordering_then x s) e) ∙ h in cc

at_depth_between : (depth : ℕ) (path : Path) (k m : DepthKey) → is_at_depth depth path m ≡ true → is_le (depth_key_cmp (start_at depth path) k) ≡ true → depth_key_cmp k m ≡ Less → is_at_depth depth path k ≡ true
at_depth_between depth path k m h a b =
    let both = and_true (m.depth == depth) (is_prefix path m.path) h in
    let before : ordering_then (nat_cmp k.depth depth) (path_cmp k.path m.path) ≡ Less = ap (λ (n : ℕ). ordering_then (nat_cmp k.depth n) (path_cmp k.path m.path)) (sym (same_number m.depth depth both.0)) ∙ b in
    elim (nat_cmp depth k.depth) as (λ (r : Ordering). nat_cmp depth k.depth ≡ r → is_le (ordering_then r (path_cmp path k.path)) ≡ true → ((k.depth == depth) && is_prefix path k.path) ≡ true) [
      | Less ↦ λ less _. absurd (then_less (nat_cmp k.depth depth) (path_cmp k.path m.path) (nat_cmp_total.antisymm k.depth depth ∙ ap ordering_reverse less) before)
      | Equal ↦ λ tie rest.
          let same : depth ≡ k.depth = nat_cmp-IsAntisymmetric depth k.depth tie in
          let later : path_cmp k.path m.path ≡ Less = sym (ap (λ (r : Ordering). ordering_then r (path_cmp k.path m.path)) (ap (nat_cmp k.depth) same ∙ tied_itself nat_cmp_total k.depth)) ∙ before in
          and_is (k.depth == depth) (is_prefix path k.path) ((Decides-eqb k.depth depth).1 (sym same)) (between_prefix path k.path m.path both.1 rest (less_le (path_cmp k.path m.path) later))
      | Greater ↦ λ _ no. true_is_not (sym no)
    ] refl a

-- after one that is not of the depth, none is
none_after : (depth : ℕ) (path : Path) (k : DepthKey) (ks : List DepthKey) → is_le (depth_key_cmp (start_at depth path) k) ≡ true → is_at_depth depth path k ≡ false → AllByRecursion (λ y. depth_key_cmp k y ≡ Less) ks → filter (is_at_depth depth path) ks ≡ []
none_after depth path k [] a fails h = refl
none_after depth path k (m ∷ ks) a fails h =
    elim (is_at_depth depth path m) as (λ b. is_at_depth depth path m ≡ b → cond b (m ∷ filter (is_at_depth depth path) ks) (filter (is_at_depth depth path) ks) ≡ []) [
      | true ↦ λ yes. true_is_not (sym (at_depth_between depth path k m yes a h.0) ∙ fails)
      | false ↦ λ _. none_after depth path k ks a fails h.1
    ] refl

-- the entries from a key on
abbrev pub from_place : DepthKey → List (DepthKey × StoredPrim) → List (DepthKey × StoredPrim)
from_place start es = filter (λ e. is_le (depth_key_cmp start e.0) && true) es

sorted_end : (xs ys : List DepthKey) → IsStrictlySortedBy depth_key_cmp (xs ++ ys) → IsStrictlySortedBy depth_key_cmp ys
unfolding IsStrictlySortedBy
sorted_end [] ys h = h
sorted_end (x ∷ xs) ys h = sorted_end xs ys h.1

sorted_first : (x : DepthKey) (xs : List DepthKey) → IsStrictlySortedBy depth_key_cmp (x ∷ xs) → AllByRecursion (λ y. depth_key_cmp x y ≡ Less) xs
unfolding IsStrictlySortedBy
sorted_first x xs h = h.0

keys_from : (start : DepthKey) (es : List (DepthKey × StoredPrim)) → keys_of (from_place start es) ≡ filter (λ k. is_le (depth_key_cmp start k) && true) (keys_of es)
keys_from start [] = refl
keys_from start (e ∷ es) =
    elim (is_le (depth_key_cmp start e.0)) as (λ b. keys_of (cond (b && true) (e ∷ from_place start es) (from_place start es)) ≡ cond (b && true) (e.0 ∷ filter (λ k. is_le (depth_key_cmp start k) && true) (keys_of es)) (filter (λ k. is_le (depth_key_cmp start k) && true) (keys_of es))) [
      | true ↦ ap (λ (ks : List DepthKey). e.0 ∷ ks) (keys_from start es)
      | false ↦ keys_from start es
    ]

-- those of the depth are among the entries from the start on
all_from : (depth : ℕ) (path : Path) (ks : List DepthKey) → filter (is_at_depth depth path) (filter (λ k. is_le (depth_key_cmp (start_at depth path) k) && true) ks) ≡ filter (is_at_depth depth path) ks
all_from depth path [] = refl
all_from depth path (k ∷ ks) =
    elim (is_le (depth_key_cmp (start_at depth path) k)) as (λ b. is_le (depth_key_cmp (start_at depth path) k) ≡ b → filter (is_at_depth depth path) (cond (b && true) (k ∷ filter (λ q. is_le (depth_key_cmp (start_at depth path) q) && true) ks) (filter (λ q. is_le (depth_key_cmp (start_at depth path) q) && true) ks)) ≡ cond (is_at_depth depth path k) (k ∷ filter (is_at_depth depth path) ks) (filter (is_at_depth depth path) ks)) [
      | true ↦ λ _. ap (λ (rest : List DepthKey). cond (is_at_depth depth path k) (k ∷ rest) rest) (all_from depth path ks)
      | false ↦ λ no.
          all_from depth path ks
          ∙ elim (is_at_depth depth path k) as (λ b. is_at_depth depth path k ≡ b → filter (is_at_depth depth path) ks ≡ cond b (k ∷ filter (is_at_depth depth path) ks) (filter (is_at_depth depth path) ks)) [
            | true ↦ λ yes. true_is_not (sym (at_depth_le depth path k yes) ∙ no)
            | false ↦ λ _. refl
          ] refl
    ] refl

passes_there : (test : DepthKey → Bool) (ks front rest : List DepthKey) (k : DepthKey) → filter test ks ≡ front ++ k ∷ rest → test k ≡ true
passes_there test ks front rest k is = in_middle front (subst (AllByRecursion (λ q. test q ≡ true)) is (all_pass ks))
  where
    all_pass : (qs : List DepthKey) → AllByRecursion (λ q. test q ≡ true) (filter test qs)
    all_pass [] = tt
    all_pass (q ∷ qs) = elim (test q) as (λ b. test q ≡ b → AllByRecursion (λ x. test x ≡ true) (cond b (q ∷ filter test qs) (filter test qs))) [
      | true ↦ λ yes. (yes, all_pass qs)
      | false ↦ λ _. all_pass qs
    ] refl

    in_middle : (front : List DepthKey) → AllByRecursion (λ q. test q ≡ true) (front ++ k ∷ rest) → test k ≡ true
    in_middle [] h = h.0
    in_middle (x ∷ front) h = in_middle front h.1

and_first : (b : Bool) → (b && true) ≡ true → b ≡ true
and_first true h = refl
and_first false h = h

-- where the first entry that is not of the depth ends the walk, those before it are all
pub walk_stops : (depth : ℕ) (path : Path) (es front rest : List (DepthKey × StoredPrim)) (e : DepthKey × StoredPrim) → IsStrictlySortedBy depth_key_cmp (keys_of es) → from_place (start_at depth path) es ≡ front ++ e ∷ rest → is_at_depth depth path e.0 ≡ false
    → filter (is_at_depth depth path) (keys_of es) ≡ filter (is_at_depth depth path) (keys_of front)
walk_stops depth path es front rest e sorted is fails =
    let test : DepthKey → Bool = λ k. is_le (depth_key_cmp (start_at depth path) k) && true in
    let ks : filter test (keys_of es) ≡ keys_of front ++ e.0 ∷ keys_of rest = sym (keys_from (start_at depth path) es) ∙ ap keys_of is ∙ keys_append front (e ∷ rest) in
    let all_sorted : IsStrictlySortedBy depth_key_cmp (keys_of front ++ e.0 ∷ keys_of rest) = subst (IsStrictlySortedBy depth_key_cmp) ks (IsStrictlySortedBy-filter depth_key_cmp test (keys_of es) sorted) in
    let after = sorted_first e.0 (keys_of rest) (sorted_end (keys_of front) (e.0 ∷ keys_of rest) all_sorted) in
    let start = and_first (is_le (depth_key_cmp (start_at depth path) e.0)) (passes_there test (keys_of es) (keys_of front) (keys_of rest) e.0 ks) in
    sym (all_from depth path (keys_of es))
    ∙ ap (filter (is_at_depth depth path)) ks
    ∙ filter-append (is_at_depth depth path) (keys_of front) (e.0 ∷ keys_of rest)
    ∙ ap (λ (qs : List DepthKey). filter (is_at_depth depth path) (keys_of front) ++ qs) (ap (λ b. cond b (e.0 ∷ filter (is_at_depth depth path) (keys_of rest)) (filter (is_at_depth depth path) (keys_of rest))) fails ∙ none_after depth path e.0 (keys_of rest) start fails after)
    ∙ nothing (filter (is_at_depth depth path) (keys_of front))
  where
    keys_append : (xs ys : List (DepthKey × StoredPrim)) → keys_of (xs ++ ys) ≡ keys_of xs ++ keys_of ys
    keys_append [] ys = refl
    keys_append (x ∷ xs) ys = ap (λ (zs : List DepthKey). x.0 ∷ zs) (keys_append xs ys)

    nothing : (xs : List DepthKey) → xs ++ [] ≡ xs
    nothing [] = refl
    nothing (x ∷ xs) = ap (λ (ys : List DepthKey). x ∷ ys) (nothing xs)

-- and so they are where the walk comes to the end
pub walk_ends : (depth : ℕ) (path : Path) (es front : List (DepthKey × StoredPrim)) → from_place (start_at depth path) es ≡ front → filter (is_at_depth depth path) (keys_of es) ≡ filter (is_at_depth depth path) (keys_of front)
walk_ends depth path es front is =
    sym (all_from depth path (keys_of es)) ∙ ap (filter (is_at_depth depth path)) (sym (keys_from (start_at depth path) es) ∙ ap keys_of is)
