-- A walk of a scene finds all paths, in order.
use Rattle.std.proofs.Common.{◌≡◌, ℕ, ◌≤◌, ◌<◌, ◌+◌, take, drop, slice_index_or, add-one, Bool, true, false, ◌&&◌, ◌||◌, List, [], ◌∷◌, ◌++◌, append_assoc, length, length-append, is_some, IsSome, refl, sym, ◌∙◌, ap, subst, arith}
use Rattle.std.proofs.lemmas.List.{append-nil, take-append-drop}
use Rattle.std.proofs.Math.Seq.{take-suc}
use Rattle.std.proofs.lemmas.List.Folds.{list_any-append}
use Rattle.std.proofs.lemmas.Map.Views.{tells_apart}
use Rattle.std.specs.List.{AllByRecursion, list_any}
use Rattle.std.specs.List.Sorted.{IsStrictlySortedBy}
use Rattle.std.specs.Ordering.{eq_by_cmp, ordering_then}
use Rattle.std.specs.declared.cmp.Ordering.TheVariants.{Less}
use Rattle.std.specs.Cmp.{eq_by_cmp_equiv, tied_itself, both_ways}
use Rattle.std.specs.Cmp.Lexicographic.{nat_list_cmp_total}
use Rattle.std.specs.FinMap.{get, keys, contains_key-keys}
use Rattle.std.proofs.Math.Bool.{and-false}
use Rattle.hd_path.specs.Names.{Name, byte_order, is_same}
use Rattle.hd_path.specs.Paths.{Path, path_cmp, is_prefix}
use Rattle.hd_path.proofs.NamePrefixes.{and_true, same_text, same_itself, prefix_of_prefix}
use Rattle.hd_path.proofs.Logic.{false_is_not, either}
use Rattle.hd_scene.specs.Scenes.{Scene, children_of, IsClosed}
use Rattle.hd_scene.specs.inner.Walks.{AppendsBelow}
use Rattle.hd_scene.proofs.Ascending.{keys_ascend, same_ascending}
use Rattle.hd_scene.proofs.Children.{path_cmp_total, path_cmp_exact, child_there, AreChildren-children_of}

-- whether a path is one of these
abbrev pub is_among : Path → List Path → Bool
is_among q paths = list_any (eq_by_cmp path_cmp q) paths

first_true : (a b : Bool) → a ≡ true → (a || b) ≡ true
first_true a b h = ap (λ c. c || b) h

second_true : (a b : Bool) → b ≡ true → (a || b) ≡ true
second_true true b h = refl
second_true false b h = h

prefix_itself : (p rest : Path) → is_prefix p (p ++ rest) ≡ true
prefix_itself [] rest = refl
prefix_itself (x ∷ p) rest = ap (λ b. b && is_prefix p (p ++ rest)) (same_itself x) ∙ prefix_itself p rest

-- what is after a prefix
rest_of : (p q : Path) → is_prefix p q ≡ true → (rest : Path) × (q ≡ p ++ rest)
rest_of [] q h = (q, refl)
rest_of (x ∷ p) [] h = false_is_not h
rest_of (x ∷ p) (y ∷ q) h =
    let both = and_true (is_same x y) (is_prefix p q) h in
    let more = rest_of p q both.1 in
    (more.0, ap (λ (z : Name). z ∷ q) (sym (same_text x y both.0)) ∙ ap (λ (z : Path). x ∷ z) more.1)

-- a prim has its first ancestors there too
there_above : (scene : Scene) → IsClosed scene → (front : Path) (name : Name) (rest : Path) → IsSome (get scene (front ++ name ∷ rest)) → IsSome (get scene (front ++ name ∷ []))
there_above scene closed front name [] there = there
there_above scene closed front name (x ∷ rest) there =
    let at : front ++ name ∷ x ∷ rest ≡ (front ++ name ∷ []) ++ x ∷ rest = sym (append_assoc front (name ∷ []) (x ∷ rest)) in
    let below : IsSome (get scene ((front ++ name ∷ []) ++ x ∷ [])) = there_above scene closed (front ++ name ∷ []) x rest (subst (λ (q : Path). IsSome (get scene q)) at there) in
    closed.parents front name x (subst (λ (q : Path). IsSome (get scene q)) (append_assoc front (name ∷ []) (x ∷ [])) below)

tied_path : (q : Path) → eq_by_cmp path_cmp q q ≡ true
tied_path q = (eq_by_cmp_equiv path_cmp_total).refl q

-- a path below begins with a child's
below_some : (path : Path) (names : List Name) (name : Name) (rest : Path) → list_any (is_same name) names ≡ true → list_any (λ other. is_prefix (path ++ other ∷ []) (path ++ name ∷ rest)) names ≡ true
below_some path [] name rest h = false_is_not h
below_some path (x ∷ names) name rest h = either (is_same name x) (list_any (is_same name) names)
    (λ same. first_true _ _ (subst (λ (z : Name). is_prefix (path ++ z ∷ []) (path ++ name ∷ rest) ≡ true) (same_text name x same)
    (subst (λ (z : Path). is_prefix (path ++ name ∷ []) z ≡ true) (append_assoc path (name ∷ []) rest) (prefix_itself (path ++ name ∷ []) rest))))
    (λ more. second_true _ _ (below_some path names name rest more)) h

some_below : (path : Path) (names : List Name) (q : Path) → list_any (λ name. is_prefix (path ++ name ∷ []) q) names ≡ true → is_prefix path q ≡ true
some_below path [] q h = false_is_not h
some_below path (x ∷ names) q h = either (is_prefix (path ++ x ∷ []) q) (list_any (λ name. is_prefix (path ++ name ∷ []) q) names)
    (λ here. prefix_of_prefix path (path ++ x ∷ []) q (prefix_itself path (x ∷ [])) here)
    (some_below path names q) h

-- a prim at or below a path is there, or at or below one of its children
at_or_below : (scene : Scene) → IsClosed scene → (path q : Path) → is_some (get scene q) ≡ true
    → is_prefix path q ≡ (eq_by_cmp path_cmp q path || list_any (λ name. is_prefix (path ++ name ∷ []) q) (children_of scene path))
at_or_below scene closed path q there = both_ways _ _ down up
  where
    by : (rest : Path) → q ≡ path ++ rest → (eq_by_cmp path_cmp q path || list_any (λ name. is_prefix (path ++ name ∷ []) q) (children_of scene path)) ≡ true
    by [] is = first_true _ _ (ap (λ (z : Path). eq_by_cmp path_cmp z path) (is ∙ append-nil path) ∙ tied_path path)
    by (name ∷ rest) is =
        let child : is_some (get scene (path ++ name ∷ [])) ≡ true = there_above scene closed path name rest (subst (λ (z : Path). is_some (get scene z) ≡ true) is there) in
        second_true _ _ (subst (λ (z : Path). list_any (λ other. is_prefix (path ++ other ∷ []) z) (children_of scene path) ≡ true) (sym is)
        (below_some path (children_of scene path) name rest (sym (child_there scene path name) ∙ child)))

    down : is_prefix path q ≡ true → (eq_by_cmp path_cmp q path || list_any (λ name. is_prefix (path ++ name ∷ []) q) (children_of scene path)) ≡ true
    down h = let rest = rest_of path q h in by rest.0 rest.1

    up : (eq_by_cmp path_cmp q path || list_any (λ name. is_prefix (path ++ name ∷ []) q) (children_of scene path)) ≡ true → is_prefix path q ≡ true
    up h = either _ _
        (λ same. subst (λ (z : Path). is_prefix path z ≡ true) (append-nil path ∙ sym (tells_apart path_cmp_exact q path same)) (prefix_itself path []))
        (some_below path (children_of scene path) q) h

-- ---- order

-- a path comes before those below it
before_below : (path : Path) (name : Name) (rest : Path) → path_cmp path (path ++ name ∷ rest) ≡ Less
before_below [] name rest = refl
before_below (x ∷ path) name rest = ap (λ r. ordering_then r (path_cmp path (path ++ name ∷ rest))) (tied_itself nat_list_cmp_total x) ∙ before_below path name rest

-- paths at or below two siblings are as the siblings' names
before_sibling : (path : Path) (a b : Name) (p q : Path) → byte_order a b ≡ Less → path_cmp (path ++ a ∷ p) (path ++ b ∷ q) ≡ Less
before_sibling [] a b p q less = ap (λ r. ordering_then r (path_cmp p q)) less
before_sibling (x ∷ path) a b p q less = ap (λ r. ordering_then r (path_cmp (path ++ a ∷ p) (path ++ b ∷ q))) (tied_itself nat_list_cmp_total x) ∙ before_sibling path a b p q less

less_at : {K : Type 0} (P : K → Type 0) (front : List K) (k : K) (back : List K) → AllByRecursion P (front ++ k ∷ back) → P k
less_at P [] k back all = all.0
less_at P (x ∷ front) k back all = less_at P front k back all.1

-- what is below one of the first children comes before what is below the next one
before_next : (path : Path) (front : List Name) (name : Name) (back : List Name) (x y : Path) → IsStrictlySortedBy byte_order (front ++ name ∷ back)
    → list_any (λ other. is_prefix (path ++ other ∷ []) x) front ≡ true → is_prefix (path ++ name ∷ []) y ≡ true → path_cmp x y ≡ Less
unfolding IsStrictlySortedBy
before_next path [] name back x y ascend h g = false_is_not h
before_next path (z ∷ front) name back x y ascend h g = either (is_prefix (path ++ z ∷ []) x) (list_any (λ other. is_prefix (path ++ other ∷ []) x) front)
    (λ here.
    let p = rest_of (path ++ z ∷ []) x here in
    let q = rest_of (path ++ name ∷ []) y g in
    ap (λ (w : Path). path_cmp w y) (p.1 ∙ append_assoc path (z ∷ []) p.0)
    ∙ ap (path_cmp (path ++ z ∷ p.0)) (q.1 ∙ append_assoc path (name ∷ []) q.0)
    ∙ before_sibling path z name p.0 q.0 (less_at (λ k. byte_order z k ≡ Less) front name back ascend.0))
    (λ more. before_next path front name back x y ascend.1 more g) h

all_less : (x : Path) (ys : List Path) → ((y : Path) → is_among y ys ≡ true → path_cmp x y ≡ Less) → AllByRecursion (λ y. path_cmp x y ≡ Less) ys
all_less x [] h = tt
all_less x (y ∷ ys) h = (h y (first_true _ _ (tied_path y)), all_less x ys (λ z among. h z (second_true (eq_by_cmp path_cmp z y) _ among)))

all_both : {K : Type 0} (P : K → Type 0) (xs ys : List K) → AllByRecursion P xs → AllByRecursion P ys → AllByRecursion P (xs ++ ys)
all_both P [] ys a b = b
all_both P (x ∷ xs) ys a b = (a.0, all_both P xs ys a.1 b)

ascending_both : (xs ys : List Path) → IsStrictlySortedBy path_cmp xs → IsStrictlySortedBy path_cmp ys
    → ((x y : Path) → is_among x xs ≡ true → is_among y ys ≡ true → path_cmp x y ≡ Less) → IsStrictlySortedBy path_cmp (xs ++ ys)
unfolding IsStrictlySortedBy
ascending_both [] ys a b less = b
ascending_both (x ∷ xs) ys a b less = (
  all_both (λ y. path_cmp x y ≡ Less) xs ys a.0 (all_less x ys (λ y among. less x y (first_true _ _ (tied_path x)) among)),
  ascending_both xs ys a.1 b (λ z y first second. less z y (second_true (eq_by_cmp path_cmp z x) _ first) second),
)

ascending_first : (x : Path) (ys : List Path) → IsStrictlySortedBy path_cmp ys → ((y : Path) → is_among y ys ≡ true → path_cmp x y ≡ Less) → IsStrictlySortedBy path_cmp (x ∷ ys)
unfolding IsStrictlySortedBy
ascending_first x ys a less = (all_less x ys less, a)

-- ---- the walk

nothing_ascends : IsStrictlySortedBy path_cmp []
unfolding IsStrictlySortedBy
nothing_ascends = tt

pub appends_none : (scene : Scene) (path : Path) (paths : List Path) → AppendsBelow scene path [] paths paths
appends_none scene path paths = record {
  added = [];
  appended = sym (append-nil paths);
  ascending = nothing_ascends;
  members = λ q. sym (and-false (is_some (get scene q)));
}

prefix_short : (p q : Path) → is_prefix p q ≡ true → length p ≤ length q
prefix_short [] q h = omega arith
prefix_short (x ∷ p) [] h = false_is_not h
prefix_short (x ∷ p) (y ∷ q) h = let rest = prefix_short p q (and_true (is_same x y) (is_prefix p q) h).1 in omega (arith, rest)

-- below a path of 32 names no prim is
pub appends_deep : (scene : Scene) (path : Path) (names : List Name) (paths : List Path) → IsClosed scene → 32 ≤ length path → AppendsBelow scene path names paths paths
appends_deep scene path names paths closed deep = record {
  added = [];
  appended = sym (append-nil paths);
  ascending = nothing_ascends;
  members = λ q. sym (none q (is_some (get scene q)) refl);
}
  where
    no : (q : Path) → is_some (get scene q) ≡ true → (ns : List Name) → list_any (λ name. is_prefix (path ++ name ∷ []) q) ns ≡ false
    no q there [] = refl
    no q there (n ∷ ns) = elim (is_prefix (path ++ n ∷ []) q) as (λ b. is_prefix (path ++ n ∷ []) q ≡ b → (b || list_any (λ name. is_prefix (path ++ name ∷ []) q) ns) ≡ false) [
      | true ↦ λ h. absurd (let long = prefix_short (path ++ n ∷ []) q h in omega (arith, long, length-append path (n ∷ []), (closed.paths q there).shallow, deep))
      | false ↦ λ _. no q there ns
    ] refl

    none : (q : Path) (b : Bool) → is_some (get scene q) ≡ b → (b && list_any (λ name. is_prefix (path ++ name ∷ []) q) names) ≡ false
    none q true there = no q there names
    none q false gone = refl

-- what is at or below a child, once what is below it is known
at_child : (scene : Scene) → IsClosed scene → (child : Path) → is_some (get scene child) ≡ true → (below : List Path)
    → ((q : Path) → is_among q below ≡ (is_some (get scene q) && list_any (λ name. is_prefix (child ++ name ∷ []) q) (children_of scene child)))
    → (q : Path) → is_among q (child ∷ below) ≡ (is_some (get scene q) && is_prefix child q)
at_child scene closed child there below members q = ap (λ b. eq_by_cmp path_cmp q child || b) (members q) ∙ by (is_some (get scene q)) refl
  where
    by : (b : Bool) → is_some (get scene q) ≡ b → (eq_by_cmp path_cmp q child || (b && list_any (λ name. is_prefix (child ++ name ∷ []) q) (children_of scene child))) ≡ (b && is_prefix child q)
    by true here = sym (at_or_below scene closed child q here)
    by false gone = apart (eq_by_cmp path_cmp q child) refl
      where
        apart : (b : Bool) → eq_by_cmp path_cmp q child ≡ b → (b || false) ≡ false
        apart false h = refl
        apart true h = false_is_not (sym gone ∙ ap (λ (z : Path). is_some (get scene z)) (tells_apart path_cmp_exact q child h) ∙ there)

-- one child more
pub appends_child : (scene : Scene) (path : Path) (front : List Name) (name : Name) (back : List Name) (before mid after : List Path) → IsClosed scene → children_of scene path ≡ front ++ name ∷ back
    → AppendsBelow scene path front before mid
    → AppendsBelow scene (path ++ name ∷ []) (children_of scene (path ++ name ∷ [])) (mid ++ (path ++ name ∷ []) ∷ []) after
    → AppendsBelow scene path (front ++ name ∷ []) before after
appends_child scene path front name back before mid after closed all seen below = record {
  added = seen.added ++ child ∷ below.added;
  appended = below.appended ∙ append_assoc mid (child ∷ []) below.added ∙ ap (λ (z : List Path). z ++ child ∷ below.added) seen.appended ∙ append_assoc before seen.added (child ∷ below.added);
  ascending = ascending_both seen.added (child ∷ below.added) seen.ascending
      (ascending_first child below.added below.ascending (λ y among. first y (and_true _ _ (sym (below.members y) ∙ among)).1))
      (λ x y a b. before_next path front name back x y names (and_true _ _ (sym (seen.members x) ∙ a)).1 (and_true _ _ (sym (here y) ∙ b)).1);
  members = λ q.
      list_any-append (eq_by_cmp path_cmp q) seen.added (child ∷ below.added)
      ∙ ap (λ b. b || is_among q (child ∷ below.added)) (seen.members q)
      ∙ ap (λ b. (is_some (get scene q) && list_any (λ n. is_prefix (path ++ n ∷ []) q) front) || b) (here q)
      ∙ joined (is_some (get scene q)) _ (is_prefix child q)
      ∙ ap (λ b. is_some (get scene q) && b) (sym (list_any-append (λ n. is_prefix (path ++ n ∷ []) q) front (name ∷ [])));
}
  where
    child : Path
    child = path ++ name ∷ []

    names : IsStrictlySortedBy byte_order (front ++ name ∷ back)
    names = subst (IsStrictlySortedBy byte_order) all (AreChildren-children_of scene path).ascending

    among_names : (front : List Name) → list_any (is_same name) (front ++ name ∷ back) ≡ true
    among_names [] = first_true _ _ (same_itself name)
    among_names (x ∷ front) = second_true (is_same name x) _ (among_names front)

    there : is_some (get scene child) ≡ true
    there = child_there scene path name ∙ ap (list_any (is_same name)) all ∙ among_names front

    here : (q : Path) → is_among q (child ∷ below.added) ≡ (is_some (get scene q) && is_prefix child q)
    here = at_child scene closed child there below.added below.members

    first : (y : Path) → list_any (λ n. is_prefix (child ++ n ∷ []) y) (children_of scene child) ≡ true → path_cmp child y ≡ Less
    first y h = by (children_of scene child) h
      where
        by : (ns : List Name) → list_any (λ n. is_prefix (child ++ n ∷ []) y) ns ≡ true → path_cmp child y ≡ Less
        by [] h = false_is_not h
        by (n ∷ ns) h = either (is_prefix (child ++ n ∷ []) y) (list_any (λ m. is_prefix (child ++ m ∷ []) y) ns)
            (λ g. let rest = rest_of (child ++ n ∷ []) y g in ap (path_cmp child) (rest.1 ∙ append_assoc child (n ∷ []) rest.0) ∙ before_below child n rest.0)
            (by ns) h

    joined : (a b c : Bool) → ((a && b) || (a && c)) ≡ (a && (b || (c || false)))
    joined true true c = refl
    joined true false true = refl
    joined true false false = refl
    joined false b c = refl

-- the same of the child of a number
pub appends_step : (scene : Scene) (path child : Path) (names : List Name) (k : ℕ) (name : Name) (before mid longer after : List Path) → IsClosed scene → names ≡ children_of scene path → k < length names
    → name ≡ slice_index_or names k name → child ≡ path ++ name ∷ [] → longer ≡ mid ++ child ∷ [] → AppendsBelow scene path (take k names) before mid
    → AppendsBelow scene child (children_of scene child) longer after → AppendsBelow scene path (take (k + 1) names) before after
appends_step scene path child names k name before mid longer after closed are within is made pushed seen below =
    let next : take (k + 1) names ≡ take k names ++ name ∷ [] = rw (add-one, take-suc names k name within) (ap (λ (z : Name). take k names ++ z ∷ []) (sym is)) in
    let all : children_of scene path ≡ take k names ++ name ∷ drop (k + 1) names =
    sym are ∙ sym (take-append-drop (k + 1) names) ∙ ap (λ (z : List Name). z ++ drop (k + 1) names) next ∙ append_assoc (take k names) (name ∷ []) (drop (k + 1) names) in
    let own : AppendsBelow scene (path ++ name ∷ []) (children_of scene (path ++ name ∷ [])) (mid ++ (path ++ name ∷ []) ∷ []) after =
    subst (λ (z : Path). AppendsBelow scene z (children_of scene z) (mid ++ z ∷ []) after) made
    (subst (λ (z : List Path). AppendsBelow scene child (children_of scene child) z after) pushed below) in
    subst (λ (z : List Name). AppendsBelow scene path z before after) (sym next)
    (appends_child scene path (take k names) name (drop (k + 1) names) before mid after closed all seen own)

-- all paths of a scene
pub appends_all : (scene : Scene) (paths : List Path) → IsClosed scene → AppendsBelow scene [] (children_of scene []) [] paths → paths ≡ keys scene
appends_all scene paths closed walked =
    walked.appended
    ∙ same_ascending path_cmp_total path_cmp_exact walked.added (keys scene) walked.ascending (keys_ascend scene) (λ q. walked.members q ∙ by q (is_some (get scene q)) refl ∙ contains_key-keys scene q)
  where
    by : (q : Path) (b : Bool) → is_some (get scene q) ≡ b → (b && list_any (λ name. is_prefix (name ∷ []) q) (children_of scene [])) ≡ is_some (get scene q)
    by q false gone = sym gone
    by [] true there = false_is_not (sym (ap is_some closed.no_root) ∙ there)
    by (x ∷ q) true there = sym (at_or_below scene closed [] (x ∷ q) there) ∙ sym there
