-- The instancers of a path are those of its prefixes.
use Rattle.std.proofs.Common.{◌≡◌, ◌≢◌, ◌↔◌, ◌-◌, Bool, true, false, not, IsTrue, ◌&&◌, ◌||◌, cond, List, [], ◌∷◌, ◌++◌, take, length, length-append, refl, sym, ◌∙◌, ap, subst, arith}
use Rattle.std.specs.Prelude.{filter}
use Rattle.std.specs.List.{list_any}
use Rattle.std.specs.List.Sorted.{IsStrictlySortedBy}
use Rattle.std.specs.FinMap.{keys}
use Rattle.std.specs.BTreeMap.{BTreeMap}
use Rattle.std.specs.BTreeSet as set
use Rattle.std.specs.BTreeSet.{BTreeSet}
use Rattle.std.proofs.lemmas.List.Kept.{IsStrictlySortedBy-filter}
use Rattle.hd_path.specs.Names.{Name, is_same}
use Rattle.hd_path.specs.Paths.{Path, path_cmp, is_prefix}
use Rattle.hd_scene.specs.Scenes.{Scene}
use Rattle.hd_scene.specs.Tells.{is_same_path}
use Rattle.hd_scene.proofs.Ascending.{keys_ascend}
use Rattle.std.specs.Ordering.{eq_by_cmp, is_eq}
use Rattle.std.specs.Cmp.{eq_by_cmp_equiv}
use Rattle.hd_scene.proofs.Children.{path_cmp_total, take-front}
use Rattle.hd_instancing.specs.Targets.{targets_at, has_target, is_root, instances, instanced_by}
use Rattle.hd_instancing.specs.inner.Tables.{listed_instancers, is_among, Holds, IsUnion}
use Rattle.hd_instancing.proofs.Pairs.{filter_is, among_filter}

-- tests that agree
pub any_same : {X : Type 0} (f g : X → Bool) (xs : List X) → ((x : X) → f x ≡ g x) → list_any f xs ≡ list_any g xs
any_same f g [] same = refl
any_same f g (x ∷ xs) same = ap (λ b. b || list_any f xs) (same x) ∙ ap (λ b. g x || b) (any_same f g xs same)

pub filter_same : {X : Type 0} (f g : X → Bool) (xs : List X) → ((x : X) → f x ≡ g x) → filter f xs ≡ filter g xs
filter_same f g [] same = refl
filter_same f g (x ∷ xs) same = ap (λ b. cond b (x ∷ filter f xs) (filter f xs)) (same x) ∙ ap (λ ys. cond (g x) (x ∷ ys) ys) (filter_same f g xs same)

any_or : {X : Type 0} (f g : X → Bool) (xs : List X) → list_any (λ x. f x || g x) xs ≡ (list_any f xs || list_any g xs)
any_or f g [] = refl
any_or f g (x ∷ xs) = ap (λ b. (f x || g x) || b) (any_or f g xs) ∙ turned (f x) (g x) (list_any f xs) (list_any g xs)
  where
    turned : (a b c d : Bool) → ((a || b) || (c || d)) ≡ ((a || c) || (b || d))
    turned true b c d = refl
    turned false true true d = refl
    turned false true false d = refl
    turned false false c d = refl

-- a prefix is the whole or a prefix of the parent
prefix_last : (target front : Path) (last : Name) → is_prefix target (front ++ last ∷ []) ≡ (is_same_path target (front ++ last ∷ []) || is_prefix target front)
prefix_last [] [] last = refl
prefix_last [] (x ∷ front) last = refl
prefix_last (a ∷ []) [] last = or_none (is_same a last && true)
  where
    or_none : (b : Bool) → b ≡ (b || false)
    or_none true = refl
    or_none false = refl
prefix_last (a ∷ b ∷ target) [] last = or_none (is_same a last && false)
  where
    or_none : (b : Bool) → b ≡ (b || false)
    or_none true = refl
    or_none false = refl
prefix_last (a ∷ target) (x ∷ front) last =
    ap (λ b. is_same a x && b) (prefix_last target front last) ∙ spread (is_same a x) (is_same_path target (front ++ last ∷ [])) (is_prefix target front)
  where
    spread : (a b c : Bool) → (a && (b || c)) ≡ ((a && b) || (a && c))
    spread true b c = refl
    spread false b c = refl

root_prefix : (target : Path) → is_prefix target [] ≡ is_same_path target []
root_prefix [] = refl
root_prefix (x ∷ target) = refl

split_last : (x : Name) (path : Path) → (front : Path) × (last : Name) × (x ∷ path ≡ front ++ last ∷ [])
split_last x [] = ([], x, refl)
split_last x (y ∷ path) =
    let rest = split_last y path in
    (x ∷ rest.0, rest.1, ap (λ (z : Path). x ∷ z) rest.2)

-- the parent of a path that has a last name
parent_is : (path front : Path) (last : Name) → path ≡ front ++ last ∷ [] → take (length path - 1) path ≡ front
parent_is path front last is =
    let short : length path - 1 ≡ length front = omega (arith, ap length is, length-append front (last ∷ [])) in
    ap (λ n. take n path) short ∙ ap (take (length front)) is ∙ take-front front (last ∷ [])

-- an instancer instances the prim at a path by a target there, or it instances the parent
pub instances_split : (scene : Scene) (instancer path parent : Path) → path ≢ [] → parent ≡ take (length path - 1) path → instances scene instancer path ≡ (has_target scene instancer path || instances scene instancer parent)
instances_split scene instancer [] parent some is = absurd (some refl)
instances_split scene instancer (x ∷ path) parent some is =
    let parts = split_last x path in
    let front : Path = parts.0 in
    let last : Name = parts.1 in
    let above : parent ≡ front = is ∙ parent_is (x ∷ path) front last parts.2 in
    any_same (λ t. is_prefix t (x ∷ path)) (λ t. is_same_path t (x ∷ path) || is_prefix t parent) (targets_at scene instancer) (λ t.
    ap (is_prefix t) parts.2 ∙ prefix_last t front last
    ∙ ap (λ (z : Path). is_same_path t z || is_prefix t front) (sym parts.2)
    ∙ ap (λ (z : Path). is_same_path t (x ∷ path) || is_prefix t z) (sym above))
    ∙ any_or (λ t. is_same_path t (x ∷ path)) (λ t. is_prefix t parent) (targets_at scene instancer)

pub at_root : (scene : Scene) (path : Path) (own : List Path) (table : BTreeMap Path (List Path)) → length path ≡ 0 → own ≡ listed_instancers table path → Holds scene table → own ≡ instanced_by scene path
at_root scene [] own table none is holds =
    is ∙ holds.at [] ∙ filter_same (λ i. has_target scene i []) (λ i. instances scene i []) (keys scene) (λ i. any_same (λ t. is_same_path t []) (λ t. is_prefix t []) (targets_at scene i) (λ t. sym (root_prefix t)))
at_root scene (x ∷ path) own table none is holds = absurd (omega (arith, none))

-- the two lists are those of the path and of what is above it
pub below_root : (scene : Scene) (path parent : Path) (own above all : List Path) (table : BTreeMap Path (List Path)) → path ≢ [] → parent ≡ take (length path - 1) path
    → own ≡ listed_instancers table path → Holds scene table → above ≡ instanced_by scene parent → IsUnion own above all → all ≡ instanced_by scene path
below_root scene path parent own above all table some is own_is holds above_is union =
    filter_is (λ i. instances scene i path) (keys scene) all (keys_ascend scene)
    (union.ascending
    (subst (IsStrictlySortedBy path_cmp) (sym filtered) (IsStrictlySortedBy-filter path_cmp (λ i. has_target scene i path) (keys scene) (keys_ascend scene)))
    (subst (IsStrictlySortedBy path_cmp) (sym above_is) (IsStrictlySortedBy-filter path_cmp (λ i. instances scene i parent) (keys scene) (keys_ascend scene))))
    (λ q.
    union.members q
    ∙ ap (λ (z : List Path). is_among q z || is_among q above) filtered
    ∙ ap (λ (z : List Path). is_among q (filter (λ i. has_target scene i path) (keys scene)) || is_among q z) above_is
    ∙ ap (λ b. b || is_among q (filter (λ i. instances scene i parent) (keys scene))) (among_filter (λ i. has_target scene i path) (keys scene) q)
    ∙ ap (λ b. (has_target scene q path && is_among q (keys scene)) || b) (among_filter (λ i. instances scene i parent) (keys scene) q)
    ∙ joined (has_target scene q path) (instances scene q parent) (is_among q (keys scene))
    ∙ ap (λ b. is_among q (keys scene) && b) (sym (instances_split scene q path parent some is)))
  where
    filtered : own ≡ filter (λ i. has_target scene i path) (keys scene)
    filtered = own_is ∙ holds.at path

    joined : (a b c : Bool) → ((a && c) || (b && c)) ≡ (c && (a || b))
    joined true true true = refl
    joined true false true = refl
    joined false true true = refl
    joined false false true = refl
    joined true true false = refl
    joined true false false = refl
    joined false true false = refl
    joined false false false = refl

none_pass : (f : Path → Bool) (ks : List Path) → filter f ks ≡ [] → list_any f ks ≡ false
none_pass f [] e = refl
none_pass f (k ∷ ks) e = pick (f k) refl e (none_pass f ks)
  where
    pick : (b : Bool) → f k ≡ b → cond b (k ∷ filter f ks) (filter f ks) ≡ [] → (filter f ks ≡ [] → list_any f ks ≡ false) → (f k || list_any f ks) ≡ false
    pick true t e rest = absurd (cc)
    pick false t e rest = ap (λ c. c || list_any f ks) t ∙ rest e

pass_none : (f : Path → Bool) (ks : List Path) → list_any f ks ≡ false → filter f ks ≡ []
pass_none f [] e = refl
pass_none f (k ∷ ks) e = pick (f k) refl e (pass_none f ks)
  where
    pick : (b : Bool) → f k ≡ b → (f k || list_any f ks) ≡ false → (list_any f ks ≡ false → filter f ks ≡ []) → cond b (k ∷ filter f ks) (filter f ks) ≡ []
    pick true t e rest = absurd (let y : (f k || list_any f ks) ≡ true = ap (λ c. c || list_any f ks) t in cc)
    pick false t e rest = rest (sym (ap (λ c. c || list_any f ks) t) ∙ e)

empty_test : (f : Path → Bool) (ks own : List Path) (empty : Bool) → own ≡ filter f ks → (IsTrue empty ↔ (own ≡ [])) → not empty ≡ list_any f ks
empty_test f ks own true are test = sym (none_pass f ks (sym are ∙ test.0 refl))
empty_test f ks own false are test = sym (some (list_any f ks) refl)
  where
    some : (b : Bool) → list_any f ks ≡ b → b ≡ true
    some true e = refl
    some false e = absurd (let y : false ≡ true = test.1 (are ∙ pass_none f ks e) in cc)

-- a path is a root where the table has instancers for it
pub root_test : (scene : Scene) (path : Path) (own : List Path) (table : BTreeMap Path (List Path)) (empty : Bool) → own ≡ listed_instancers table path → Holds scene table → (IsTrue empty ↔ (own ≡ [])) → not empty ≡ is_root scene path
root_test scene path own table empty is holds test = empty_test (λ i. has_target scene i path) (keys scene) own empty (is ∙ holds.at path) test

-- ---- two lists as one

pub union_left : (first second : List Path) → second ≡ [] → IsUnion first second first
union_left first second none = record {
  ascending = λ a b. a;
  members = λ q. nothing (is_among q first) ∙ ap (λ (z : List Path). is_among q first || is_among q z) (sym none);
}
  where
    nothing : (a : Bool) → a ≡ (a || false)
    nothing true = refl
    nothing false = refl

pub union_right : (first second : List Path) → first ≡ [] → IsUnion first second second
union_right first second none = record {
  ascending = λ a b. b;
  members = λ q. ap (λ (z : List Path). is_among q z || is_among q second) (sym none);
}

pub union_both : (first second : List Path) (empty mid all : BTreeSet Path) → empty.keys ≡ []
    → ((q : Path) → set.contains path_cmp mid q ≡ (set.contains path_cmp empty q || is_among q first))
    → ((q : Path) → set.contains path_cmp all q ≡ (set.contains path_cmp mid q || is_among q second))
    → set.IsOrdered path_cmp all → IsUnion first second all.keys
union_both first second empty mid all none firsts seconds ordered = record {
  ascending = λ a b. ordered;
  members = λ q.
      seconds q
      ∙ ap (λ b. b || is_among q second) (firsts q)
      ∙ ap (λ (ks : List Path). (is_among q ks || is_among q first) || is_among q second) none;
}

-- what a set has after a path was put into it
pub path_put : (path other : Path) (new old : Bool) → new ≡ cond (is_eq (path_cmp path other)) true old → new ≡ (old || eq_by_cmp path_cmp other path)
path_put path other new old is = is ∙ ap (λ b. cond b true old) ((eq_by_cmp_equiv path_cmp_total).symm path other) ∙ turned (eq_by_cmp path_cmp other path) old
  where
    turned : (a b : Bool) → cond a true b ≡ (b || a)
    turned true true = refl
    turned true false = refl
    turned false true = refl
    turned false false = refl
