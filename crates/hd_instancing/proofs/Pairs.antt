-- Sets of instancers by target, and the table that is made of them.
use Rattle.std.proofs.Common.{◌≡◌, ℕ, ◌<◌, ◌+◌, Bool, true, false, ◌&&◌, ◌||◌, cond, List, [], ◌∷◌, take, slice_index_or, length, Option, Some, None, refl, sym, ◌∙◌, ap, subst}
use Rattle.std.proofs.lemmas.List.Folds.{list_any_more}
use Rattle.std.proofs.lemmas.List.Kept.{IsStrictlySortedBy-filter}
use Rattle.std.proofs.lemmas.Map.Views.{tells_apart, any-filter_same}
use Rattle.std.specs.Prelude.{unwrap_or, filter}
use Rattle.std.specs.List.{AllByRecursion, list_any}
use Rattle.std.specs.List.Sorted.{IsStrictlySortedBy}
use Rattle.std.specs.Map.{lookup, keys_of}
use Rattle.std.specs.Option.{option_map, option_map_or, option_or}
use Rattle.std.specs.Ordering.{eq_by_cmp, is_eq}
use Rattle.std.specs.Cmp.{eq_by_cmp_equiv}
use Rattle.std.specs.declared.cmp.Ordering.TheVariants.{Less}
use Rattle.std.specs.FinMap.{get, keys}
use Rattle.std.specs.BTreeMap as tree
use Rattle.std.specs.BTreeMap.{BTreeMap}
use Rattle.std.specs.BTreeSet as set
use Rattle.std.specs.BTreeSet.{BTreeSet}
use Rattle.hd_path.specs.inner.Comparing.{names_ties}
use Rattle.hd_path.specs.Paths.{Path, path_cmp}
use Rattle.hd_scene.specs.Scenes.{Scene, prim_of}
use Rattle.hd_scene.specs.Tells.{is_same_path}
use Rattle.hd_scene.specs.declared.prims.Entry.{Entry}
use Rattle.hd_scene.specs.declared.prims.Primitive.{Primitive}
use Rattle.hd_scene.proofs.Ascending.{keys_ascend, same_ascending}
use Rattle.hd_scene.proofs.Children.{path_cmp_total, path_cmp_exact}
use Rattle.hd_instancing.specs.Targets.{targets_of, targets_at, has_target}
use Rattle.hd_instancing.specs.inner.Tables.{listed_instancers, has_pair, is_among, primitive_targets, Holds}

abbrev pub Sets : Type 0
Sets = BTreeMap Path (BTreeSet Path)

has : Option (BTreeSet Path) → Path → Bool
has o path = option_map_or (λ s. set.contains path_cmp s path) o false

-- one pair more
pub pair_added : (target instancer : Path) (old rest new : Sets) (taken put : BTreeSet Path)
    → ((path : Path) → set.contains path_cmp taken path ≡ has_pair old target path)
    → ((path : Path) → tree.get path_cmp rest path ≡ cond (is_eq (path_cmp target path)) None (tree.get path_cmp old path))
    → ((path : Path) → set.contains path_cmp put path ≡ cond (is_eq (path_cmp instancer path)) true (set.contains path_cmp taken path))
    → ((path : Path) → tree.get path_cmp new path ≡ cond (is_eq (path_cmp target path)) (Some put) (tree.get path_cmp rest path))
    → (other path : Path) → has_pair new other path ≡ (has_pair old other path || (eq_by_cmp path_cmp path instancer && is_same_path target other))
unfolding has
pair_added target instancer old rest new taken put was left added is other path = ap (λ o. has o path) (is other) ∙ by (is_eq (path_cmp target other)) refl
  where
    turned : (a b : Bool) → cond a true b ≡ (b || (a && true))
    turned true true = refl
    turned true false = refl
    turned false true = refl
    turned false false = refl

    none : (a b : Bool) → a ≡ (a || (b && false))
    none true b = refl
    none false true = refl
    none false false = refl

    by : (b : Bool) → is_eq (path_cmp target other) ≡ b → has (cond b (Some put) (tree.get path_cmp rest other)) path ≡ (has_pair old other path || (eq_by_cmp path_cmp path instancer && is_same_path target other))
    by true t =
        added path
        ∙ ap (λ b. cond b true (set.contains path_cmp taken path)) ((eq_by_cmp_equiv path_cmp_total).symm instancer path)
        ∙ ap (cond (eq_by_cmp path_cmp path instancer) true) (was path ∙ ap (λ (z : Path). has_pair old z path) (tells_apart path_cmp_exact target other t))
        ∙ turned (eq_by_cmp path_cmp path instancer) (has_pair old other path)
        ∙ ap (λ b. has_pair old other path || (eq_by_cmp path_cmp path instancer && b)) (sym (names_ties target other ∙ t))
    by false f =
        ap (λ o. has o path) (left other ∙ ap (λ b. cond b None (tree.get path_cmp old other)) f)
        ∙ none (has_pair old other path) (eq_by_cmp path_cmp path instancer)
        ∙ ap (λ b. has_pair old other path || (eq_by_cmp path_cmp path instancer && b)) (sym (names_ties target other ∙ f))

-- what is taken out of the sets, where there is a set and where there is none
pub taken_is : (o : Option (BTreeSet Path)) (s : BTreeSet Path) (path : Path) → o ≡ Some s → set.contains path_cmp s path ≡ option_map_or (λ t. set.contains path_cmp t path) o false
taken_is o s path is = ap (λ (z : Option (BTreeSet Path)). option_map_or (λ t. set.contains path_cmp t path) z false) (sym is)

pub no_pair : (a b : Bool) → a ≡ (a || (b && false))
no_pair true b = refl
no_pair false true = refl
no_pair false false = refl

-- one target more
pub targets_further : (instancer : Path) (targets : List Path) (k : ℕ) (at : Path) (old mid new : Bool) (target path : Path) → k < length targets → at ≡ slice_index_or targets k at
    → mid ≡ (old || (eq_by_cmp path_cmp path instancer && list_any (λ other. is_same_path other target) (take k targets)))
    → new ≡ (mid || (eq_by_cmp path_cmp path instancer && is_same_path at target))
    → new ≡ (old || (eq_by_cmp path_cmp path instancer && list_any (λ other. is_same_path other target) (take (k + 1) targets)))
targets_further instancer targets k at old mid new target path within is before added =
    added
    ∙ ap (λ b. b || (eq_by_cmp path_cmp path instancer && is_same_path at target)) before
    ∙ joined old (eq_by_cmp path_cmp path instancer) (list_any (λ other. is_same_path other target) (take k targets)) (is_same_path at target)
    ∙ ap (λ b. old || (eq_by_cmp path_cmp path instancer && b))
    (ap (λ (z : Path). list_any (λ other. is_same_path other target) (take k targets) || is_same_path z target) is
    ∙ sym (list_any_more (λ other. is_same_path other target) targets k at within))
  where
    joined : (a e b c : Bool) → ((a || (e && b)) || (e && c)) ≡ (a || (e && (b || c)))
    joined true e b c = refl
    joined false true b c = refl
    joined false false b c = refl

-- the targets of what was answered are those of the scene
pub asked_targets : (scene : Scene) (path : Path) (prim : Primitive) → prim ≡ prim_of (get scene path) → primitive_targets prim ≡ targets_at scene path
asked_targets scene path prim asked = ap primitive_targets asked ∙ by (get scene path)
  where
    by : (o : Option Entry) → primitive_targets (prim_of o) ≡ option_map_or targets_of o []
    by None = refl
    by (Some e) = refl

-- one prim more
pub prims_further : (scene : Scene) (paths : List Path) (k : ℕ) (at : Path) (old mid new : Bool) (target path : Path) → k < length paths → at ≡ slice_index_or paths k at
    → mid ≡ (old || (is_among path (take k paths) && has_target scene path target))
    → new ≡ (mid || (eq_by_cmp path_cmp path at && list_any (λ other. is_same_path other target) (targets_at scene at)))
    → new ≡ (old || (is_among path (take (k + 1) paths) && has_target scene path target))
prims_further scene paths k at old mid new target path within is before added =
    added
    ∙ ap (λ b. b || (eq_by_cmp path_cmp path at && has_target scene at target)) before
    ∙ ap (λ b. (old || (is_among path (take k paths) && has_target scene path target)) || b) (own (eq_by_cmp path_cmp path at) refl)
    ∙ joined old (is_among path (take k paths)) (eq_by_cmp path_cmp path at) (has_target scene path target)
    ∙ ap (λ b. old || (b && has_target scene path target))
    (ap (λ (z : Path). is_among path (take k paths) || eq_by_cmp path_cmp path z) is
    ∙ sym (list_any_more (eq_by_cmp path_cmp path) paths k at within))
  where
    own : (b : Bool) → eq_by_cmp path_cmp path at ≡ b → (b && has_target scene at target) ≡ (b && has_target scene path target)
    own true t = ap (λ (z : Path). has_target scene z target) (sym (tells_apart path_cmp_exact path at t))
    own false f = refl

    joined : (a b c t : Bool) → ((a || (b && t)) || (c && t)) ≡ (a || ((b || c) && t))
    joined true b c t = refl
    joined false true true true = refl
    joined false true true false = refl
    joined false true false true = refl
    joined false true false false = refl
    joined false false c t = refl

-- ---- lists in path order

and_turned : (a b : Bool) → (a && b) ≡ (b && a)
and_turned true true = refl
and_turned true false = refl
and_turned false true = refl
and_turned false false = refl

pub among_filter : (f : Path → Bool) (ks : List Path) (q : Path) → is_among q (filter f ks) ≡ (f q && is_among q ks)
among_filter f ks q = any-filter_same (eq_by_cmp path_cmp q) f (f q) (λ k t. ap f (sym (tells_apart path_cmp_exact q k t))) ks

-- a list in path order is what of another one passes a test, where it has the same members
pub filter_is : (f : Path → Bool) (ks xs : List Path) → IsStrictlySortedBy path_cmp ks → IsStrictlySortedBy path_cmp xs → ((q : Path) → is_among q xs ≡ (is_among q ks && f q)) → xs ≡ filter f ks
filter_is f ks xs ks_ascend xs_ascend same =
    same_ascending path_cmp_total path_cmp_exact xs (filter f ks) xs_ascend (IsStrictlySortedBy-filter path_cmp f ks ks_ascend)
    (λ q. same q ∙ and_turned (is_among q ks) (f q) ∙ sym (among_filter f ks q))

-- the table of all prims
pub all_hold : (scene : Scene) (paths : List Path) (empty sets : Sets) (table : BTreeMap Path (List Path)) → paths ≡ keys scene → empty.entries ≡ []
    → ((target instancer : Path) → has_pair sets target instancer ≡ (has_pair empty target instancer || (is_among instancer paths && has_target scene instancer target)))
    → ((target path : Path) → is_among path (listed_instancers table target) ≡ has_pair sets target path)
    → ((target : Path) → IsStrictlySortedBy path_cmp (listed_instancers table target)) → Holds scene table
all_hold scene paths empty sets table are none added shared ascend = record {
  at = λ target. filter_is (λ instancer. has_target scene instancer target) (keys scene) (listed_instancers table target) (keys_ascend scene) (ascend target) (λ q.
      shared target q
      ∙ added target q
      ∙ ap (λ (es : List (Path × BTreeSet Path)). option_map_or (λ s. set.contains path_cmp s q) (lookup (tree.is_at (path_cmp target)) es) false || (is_among q paths && has_target scene q target)) none
      ∙ ap (λ (z : List Path). is_among q z && has_target scene q target) are);
}

-- ---- sets that become lists

-- no later key is the first one
pub none_later : (k : Path) (es : List (Path × BTreeSet Path)) → AllByRecursion (λ y. path_cmp k y ≡ Less) (keys_of es) → lookup (tree.is_at (path_cmp k)) es ≡ None
none_later k [] all = refl
none_later k (e ∷ es) all = ap (λ r. cond (is_eq r) (Some e.1) (lookup (tree.is_at (path_cmp k)) es)) all.0 ∙ none_later k es all.1

abbrev pub left_at : List (Path × BTreeSet Path) → Path → Option (List Path)
left_at es q = option_map (λ (s : BTreeSet Path). s.keys) (lookup (tree.is_at (path_cmp q)) es)

-- what the table has together with the sets that are left
pub record Shares (sets : Sets) (left : List (Path × BTreeSet Path)) (table : BTreeMap Path (List Path)) : Type 0 where
  pub sorted : IsStrictlySortedBy path_cmp (keys_of left)
  pub at : (q : Path) → option_or (left_at left q) (tree.get path_cmp table q) ≡ left_at sets.entries q
  pub ascending : (q : Path) → IsStrictlySortedBy path_cmp (listed_instancers table q)

nothing_ascends : IsStrictlySortedBy path_cmp []
unfolding IsStrictlySortedBy
nothing_ascends = tt

pub shares_none : (sets : Sets) (left : List (Path × BTreeSet Path)) (table : BTreeMap Path (List Path)) → tree.IsOrdered path_cmp sets → left ≡ sets.entries → table.entries ≡ [] → Shares sets left table
shares_none sets left table ordered are none = record {
  sorted = subst (λ (es : List (Path × BTreeSet Path)). IsStrictlySortedBy path_cmp (keys_of es)) (sym are) ordered;
  at = λ q. ap (option_or (left_at left q)) (empty q) ∙ nothing (left_at left q) ∙ ap (λ (es : List (Path × BTreeSet Path)). left_at es q) are;
  ascending = λ q. subst (λ (o : Option (List Path)). IsStrictlySortedBy path_cmp (unwrap_or o [])) (sym (empty q)) nothing_ascends;
}
  where
    empty : (q : Path) → tree.get path_cmp table q ≡ None
    empty q = ap (λ (es : List (Path × List Path)). lookup (tree.is_at (path_cmp q)) es) none

    nothing : (o : Option (List Path)) → option_or o None ≡ o
    nothing None = refl
    nothing (Some x) = refl

pub shares_more : (sets : Sets) (target : Path) (instancers : BTreeSet Path) (left : List (Path × BTreeSet Path)) (old new : BTreeMap Path (List Path)) → Shares sets ((target, instancers) ∷ left) old
    → set.IsOrdered path_cmp instancers
    → ((path : Path) → tree.get path_cmp new path ≡ cond (is_eq (path_cmp target path)) (Some instancers.keys) (tree.get path_cmp old path)) → Shares sets left new
unfolding IsStrictlySortedBy
shares_more sets target instancers left old new shares ordered put = record {
  sorted = shares.sorted.1;
  at = λ q. ap (option_or (left_at left q)) (put q) ∙ by q (is_eq (path_cmp target q)) refl ∙ shares.at q;
  ascending = λ q. subst (λ (o : Option (List Path)). IsStrictlySortedBy path_cmp (unwrap_or o [])) (sym (put q)) (own q (is_eq (path_cmp target q)));
}
  where
    own : (q : Path) (b : Bool) → IsStrictlySortedBy path_cmp (unwrap_or (cond b (Some instancers.keys) (tree.get path_cmp old q)) [])
    own q true = ordered
    own q false = shares.ascending q

    turned : (q : Path) → is_eq (path_cmp q target) ≡ is_eq (path_cmp target q)
    turned q = (eq_by_cmp_equiv path_cmp_total).symm q target

    by : (q : Path) (b : Bool) → is_eq (path_cmp target q) ≡ b
        → option_or (left_at left q) (cond b (Some instancers.keys) (tree.get path_cmp old q)) ≡ option_or (left_at ((target, instancers) ∷ left) q) (tree.get path_cmp old q)
    by q true t =
        let gone : left_at left q ≡ None = ap (left_at left) (sym (tells_apart path_cmp_exact target q t)) ∙ ap (option_map (λ (s : BTreeSet Path). s.keys)) (none_later target left shares.sorted.0) in
        ap (λ o. option_or o (Some instancers.keys)) gone
        ∙ ap (λ b. option_or (option_map (λ (s : BTreeSet Path). s.keys) (cond b (Some instancers) (lookup (tree.is_at (path_cmp q)) left))) (tree.get path_cmp old q)) (sym (turned q ∙ t))
    by q false f =
        ap (λ b. option_or (option_map (λ (s : BTreeSet Path). s.keys) (cond b (Some instancers) (lookup (tree.is_at (path_cmp q)) left))) (tree.get path_cmp old q)) (sym (turned q ∙ f))

-- all are shared
pub shared_pairs : (sets : Sets) (left : List (Path × BTreeSet Path)) (table : BTreeMap Path (List Path)) → Shares sets left table → left ≡ [] → (target path : Path) → is_among path (listed_instancers table target) ≡ has_pair sets target path
shared_pairs sets left table shares none target path =
    ap (λ (o : Option (List Path)). is_among path (unwrap_or o [])) (sym (ap (λ (es : List (Path × BTreeSet Path)). option_or (left_at es target) (tree.get path_cmp table target)) none) ∙ shares.at target)
    ∙ by (lookup (tree.is_at (path_cmp target)) sets.entries)
  where
    by : (o : Option (BTreeSet Path)) → is_among path (unwrap_or (option_map (λ (s : BTreeSet Path). s.keys) o) []) ≡ option_map_or (λ s. set.contains path_cmp s path) o false
    by None = refl
    by (Some s) = refl

pub pair_none : (a : Bool) → a ≡ (a || false)
pair_none true = refl
pair_none false = refl
