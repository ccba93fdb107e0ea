-- The keys below a path, and the names of those immediately below it.
use Rattle.std.proofs.Common.{◌≡◌, ◌≢◌, ℕ, ◌+◌, ◌<◌, ◌≤◌, Bool, true, false, cond, ◌&&◌, ◌||◌, ◌==◌, nat_lt, List, [], ◌∷◌, ◌++◌, length, length-append, get_or, map, filter, take, Option, Some, None, is_some, Result, Ok, Err, IfOk, refl, sym, ◌∙◌, ap, subst, arith}
use Rattle.std.proofs.lemmas.Bool.{lt-ltb, ltb-true, ltb-false}
use Rattle.std.proofs.lemmas.Bool.Decides.{Decides-eqb}
use Rattle.std.proofs.lemmas.Cmp.{nat_cmp_total, tied_itself, eq_by_cmp_equiv}
use Rattle.std.proofs.lemmas.List.{take_more, map-append}
use Rattle.std.proofs.lemmas.List.Elements.{filter_map-append}
use Rattle.std.proofs.lemmas.List.Folds.{list_any-append}
use Rattle.std.proofs.lemmas.List.Kept.{IsStrictlySortedBy-filter}
use Rattle.std.proofs.lemmas.Map.Views.{any-filter_same}
use Rattle.std.specs.FinMap.{get, from_entries, empty, get-from_entries}
use Rattle.std.specs.FinMap.Entries.{is_some-find}
use Rattle.std.specs.List.{AllByRecursion, list_all, list_any, filter_map}
use Rattle.std.specs.List.Sorted.{IsStrictlySortedBy}
use Rattle.std.specs.Map.{lookup, keys_of}
use Rattle.std.specs.Ordering.{nat_cmp, eq_by_cmp, is_eq, ordering_then}
use Rattle.std.specs.declared.cmp.Ordering.{Ordering}
use Rattle.std.specs.declared.cmp.Ordering.TheVariants.{Less, Equal, Greater}
use Rattle.std.specs.declared.alloc.AllocError.{AllocError}
use Rattle.std.specs.declared.alloc.Global.{Global}
use Rattle.std.specs.declared.vec.Vec.{Vec}
use Rattle.std.specs.BTreeMap as tree
use Rattle.std.specs.BTreeMap.{BTreeMap}
use Rattle.hd_path.specs.Paths.{Path, IsPath, path_cmp, is_prefix}
use Rattle.hd_path.specs.Names.{Name, is_same}
use Rattle.hd_path.proofs.NamePrefixes.{same_itself, and_true}
use Rattle.hd_path.proofs.Logic.{true_is_not}
use Rattle.hd_scene.specs.declared.prims.Entry.{Entry}
use Rattle.hd_scene.specs.Scenes.{Scene, child_name, children_of}
use Rattle.hd_scene.proofs.Ascending.{entries-from_entries}
use Rattle.hd_scene.proofs.Children.{path_cmp_total, AreChildren-children_of, children_of-unique}
use Rattle.hd_retained.specs.declared.stored.DepthKey.{DepthKey}
use Rattle.hd_retained.specs.declared.stored.StoredPrim.{StoredPrim}
use Rattle.hd_retained.specs.Layers.{scene_of}
use Rattle.hd_retained.specs.inner.Indexed.{depth_key_cmp, depth_key_of, is_placed, is_at_depth, is_listed, layer_in, IsSound, IsIndex, IsSubtree, IsWithout}
use Rattle.hd_retained.proofs.Listing.{and_is}
use Rattle.hd_retained.proofs.DepthKeys.{depth_key_cmp_total, key_is, listed_paths}
use Rattle.hd_retained.proofs.Kept.{IsPlaced, keys_placed, layer_has, scene_has}
use Rattle.hd_retained.proofs.Depths.{same_number}

-- the keys list a key where the tree has a prim there
listed_keys : (q : DepthKey) (es : List (DepthKey × StoredPrim)) → is_listed (keys_of es) q ≡ is_some (lookup (λ k. is_eq (depth_key_cmp q k)) es)
listed_keys q [] = refl
listed_keys q (e ∷ es) = elim (is_eq (depth_key_cmp q e.0)) as (λ b. (b || is_listed (keys_of es) q) ≡ is_some (cond b (Some e.1) (lookup (λ k. is_eq (depth_key_cmp q k)) es))) [ true ↦ refl | false ↦ listed_keys q es ]

listed_filter : (test : DepthKey → Bool) (q : DepthKey) (ks : List DepthKey) → is_listed (filter test ks) q ≡ (test q && is_listed ks q)
listed_filter test q ks = any-filter_same (eq_by_cmp depth_key_cmp q) test (test q) (λ k tie. ap test (sym (key_is q k tie))) ks

-- of the keys that pass a test
pub listed_there : (m : BTreeMap DepthKey StoredPrim) (test : DepthKey → Bool) (q : DepthKey) → is_listed (filter test (tree.keys m)) q ≡ (test q && is_some (tree.get depth_key_cmp m q))
listed_there m test q = listed_filter test q (tree.keys m) ∙ ap (λ b. test q && b) (listed_keys q m.entries)

by_recursion : (ks : List DepthKey) (test : DepthKey → Bool) → AllByRecursion IsPlaced ks → AllByRecursion IsPlaced (filter test ks)
by_recursion [] test h = tt
by_recursion (k ∷ ks) test h = elim (test k) as (λ b. AllByRecursion IsPlaced (cond b (k ∷ filter test ks) (filter test ks))) [
  | true ↦ (h.0, by_recursion ks test h.1)
  | false ↦ by_recursion ks test h.1
]

deep_pass : (depth : ℕ) (path : Path) (ks : List DepthKey) → AllByRecursion (λ k. k.depth ≡ depth) (filter (is_at_depth depth path) ks)
deep_pass depth path [] = tt
deep_pass depth path (k ∷ ks) = elim (is_at_depth depth path k) as (λ b. is_at_depth depth path k ≡ b → AllByRecursion (λ x. x.depth ≡ depth) (cond b (k ∷ filter (is_at_depth depth path) ks) (filter (is_at_depth depth path) ks))) [
  | true ↦ λ yes. (same_number k.depth depth (and_true (k.depth == depth) (is_prefix path k.path) yes).0, deep_pass depth path ks)
  | false ↦ λ _. deep_pass depth path ks
] refl

same_depth : (a b : DepthKey) (depth : ℕ) → a.depth ≡ depth → b.depth ≡ depth → depth_key_cmp a b ≡ Less → path_cmp a.path b.path ≡ Less
same_depth a b depth p q less =
    sym (ap (λ (r : Ordering). ordering_then r (path_cmp a.path b.path)) (ap (λ (n : ℕ). nat_cmp n b.depth) p ∙ ap (nat_cmp depth) q ∙ tied_itself nat_cmp_total depth)) ∙ less

paths_above : (a : DepthKey) (depth : ℕ) (ks : List DepthKey) → a.depth ≡ depth → AllByRecursion (λ k. k.depth ≡ depth) ks → AllByRecursion (λ y. depth_key_cmp a y ≡ Less) ks → AllByRecursion (λ y. path_cmp a.path y ≡ Less) (map (λ (p : DepthKey). p.path) ks)
paths_above a depth [] p q h = tt
paths_above a depth (k ∷ ks) p q h = (same_depth a k depth p q.0 h.0, paths_above a depth ks p q.1 h.1)

-- the paths of keys of one depth ascend where the keys do
paths_ascend : (depth : ℕ) (ks : List DepthKey) → AllByRecursion (λ k. k.depth ≡ depth) ks → IsStrictlySortedBy depth_key_cmp ks → IsStrictlySortedBy path_cmp (map (λ (p : DepthKey). p.path) ks)
unfolding IsStrictlySortedBy
paths_ascend depth [] q h = tt
paths_ascend depth (k ∷ ks) q h = (paths_above k depth ks q.0 q.1 h.0, paths_ascend depth ks q.1 h.1)

-- a scene of these paths alone
abbrev marked : Path → Path × Entry
marked path = (path, record { kind = []; values = empty })

marked_keys : (ps : List Path) → keys_of (map marked ps) ≡ ps
marked_keys [] = refl
marked_keys (p ∷ ps) = ap (λ (qs : List Path). p ∷ qs) (marked_keys ps)

abbrev scene_at : List Path → Scene
scene_at ps = from_entries (map marked ps)

marked_there : (ps : List Path) (q : Path) → is_some (get (scene_at ps) q) ≡ list_any (eq_by_cmp path_cmp q) ps
marked_there ps q = ap is_some (get-from_entries path_cmp_total (map marked ps) q) ∙ is_some-find path_cmp q (map marked ps) ∙ ap (list_any (eq_by_cmp path_cmp q)) (marked_keys ps)

marked_children : (ps : List Path) (path : Path) → IsStrictlySortedBy path_cmp ps → filter_map (child_name path) ps ≡ children_of (scene_at ps) path
marked_children ps path ascend =
    ap (filter_map (child_name path)) (sym (ap keys_of (entries-from_entries path_cmp_total (map marked ps) (subst (IsStrictlySortedBy path_cmp) (sym (marked_keys ps)) ascend)) ∙ marked_keys ps))

prefix_child : (path : Path) (name : Name) → is_prefix path (path ++ name ∷ []) ≡ true
prefix_child [] name = refl
prefix_child (x ∷ path) name = and_is (is_same x x) (is_prefix path (path ++ name ∷ [])) (same_itself x) (prefix_child path name)

-- the keys one below a path have the names of its children
pub children_kept : (m : BTreeMap DepthKey StoredPrim) (path : Path) → IsSound m → tree.IsOrdered depth_key_cmp m
    → filter_map (child_name path) (map (λ (p : DepthKey). p.path) (filter (is_at_depth (length path + 1) path) (tree.keys m))) ≡ children_of (scene_of (layer_in m)) path
children_kept m path sound ordered =
    let test : DepthKey → Bool = is_at_depth (length path + 1) path in
    let key_list : List DepthKey = filter test (tree.keys m) in
    let paths : List Path = map (λ (p : DepthKey). p.path) key_list in
    let ascend : IsStrictlySortedBy path_cmp paths = paths_ascend (length path + 1) key_list (deep_pass (length path + 1) path (tree.keys m)) (IsStrictlySortedBy-filter depth_key_cmp test (tree.keys m) ordered) in
    let are = AreChildren-children_of (scene_at paths) path in
    let there : (name : Name) → is_some (get (scene_at paths) (path ++ name ∷ [])) ≡ is_some (get (scene_of (layer_in m)) (path ++ name ∷ [])) = λ name.
    marked_there paths (path ++ name ∷ [])
    ∙ listed_paths (path ++ name ∷ []) key_list (by_recursion (tree.keys m) test (keys_placed m sound))
    ∙ listed_there m test (depth_key_of (path ++ name ∷ []))
    ∙ ap (λ b. b && is_some (tree.get depth_key_cmp m (depth_key_of (path ++ name ∷ [])))) (and_is (length (path ++ name ∷ []) == length path + 1) (is_prefix path (path ++ name ∷ [])) ((Decides-eqb (length (path ++ name ∷ [])) (length path + 1)).1 (length-append path (name ∷ []))) (prefix_child path name))
    ∙ sym (layer_has m sound (path ++ name ∷ []))
    ∙ sym (scene_has (layer_in m) (path ++ name ∷ [])) in
    marked_children paths path ascend
    ∙ children_of-unique (scene_of (layer_in m)) path (children_of (scene_at paths) path) (record {
      ascending = are.ascending;
      there = λ name. (λ h. sym (there name) ∙ (are.there name).0 h, λ h. (are.there name).1 (there name ∙ h));
    })

-- the keys of the depths below this one
pub record IsGathered (m : BTreeMap DepthKey StoredPrim) (path : Path) (depth : ℕ) (key_list : List DepthKey) : Type 0 where
  pub ascending : IsStrictlySortedBy depth_key_cmp key_list
  pub shallow : AllByRecursion (λ p. p.depth < depth) key_list
  pub placed : list_all is_placed key_list ≡ true
  pub listed : (q : Path) → is_listed key_list (depth_key_of q) ≡ (nat_lt (length q) depth && (is_prefix path q && is_some (tree.get depth_key_cmp m (depth_key_of q))))

prefix_shorter : (p q : Path) → is_prefix p q ≡ true → length p ≤ length q
prefix_shorter [] q h = omega arith
prefix_shorter (x ∷ p) [] h = true_is_not (sym h)
prefix_shorter (x ∷ p) (y ∷ q) h = omega (arith, prefix_shorter p q (and_true (is_same x y) (is_prefix p q) h).1)

not_lt : (a b : ℕ) → b ≤ a → nat_lt a b ≡ false
not_lt a b h =
    elim (nat_lt a b) as (λ t. nat_lt a b ≡ t → t ≡ false) [
      | true ↦ λ lt. absurd (omega (arith, ltb-true a b lt))
      | false ↦ λ _. refl
    ] refl

pub gathered_none : (m : BTreeMap DepthKey StoredPrim) (path : Path) → IsGathered m path (length path) []
unfolding IsStrictlySortedBy
gathered_none m path = record {
  ascending = tt;
  shallow = tt;
  placed = refl;
  listed = λ q. elim (is_prefix path q) as (λ b. is_prefix path q ≡ b → false ≡ (nat_lt (length q) (length path) && (b && is_some (tree.get depth_key_cmp m (depth_key_of q))))) [
    | true ↦ λ yes. ap (λ b. b && is_some (tree.get depth_key_cmp m (depth_key_of q))) (sym (not_lt (length q) (length path) (prefix_shorter path q yes)))
    | false ↦ λ _. sym (never (nat_lt (length q) (length path)))
  ] refl;
}
  where
    never : (b : Bool) → (b && false) ≡ false
    never true = refl
    never false = refl

all_append : (test : DepthKey → Bool) (xs ys : List DepthKey) → list_all test xs ≡ true → list_all test ys ≡ true → list_all test (xs ++ ys) ≡ true
all_append test [] ys p q = q
all_append test (x ∷ xs) ys p q =
    let both = and_true (test x) (list_all test xs) p in
    and_is (test x) (list_all test (xs ++ ys)) both.0 (all_append test xs ys both.1 q)

placed_all : (ks : List DepthKey) → AllByRecursion IsPlaced ks → list_all is_placed ks ≡ true
placed_all [] h = refl
placed_all (k ∷ ks) h = and_is (is_placed k) (list_all is_placed ks) ((Decides-eqb k.depth (length k.path)).1 h.0) (placed_all ks h.1)

-- below the next number is below the number, or it
lt_next : (n d : ℕ) → nat_lt n (d + 1) ≡ (nat_lt n d || n == d)
lt_next n d =
    elim (nat_lt n d) as (λ b. nat_lt n d ≡ b → nat_lt n (d + 1) ≡ (b || n == d)) [
      | true ↦ λ lt. lt-ltb n (d + 1) (omega (arith, ltb-true n d lt))
      | false ↦ λ ge. elim (n == d) as (λ b. (n == d) ≡ b → nat_lt n (d + 1) ≡ b) [
        | true ↦ λ same. lt-ltb n (d + 1) (omega (arith, same_number n d same))
        | false ↦ λ other. not_lt n (d + 1) (above (λ e. true_is_not (sym ((Decides-eqb n d).1 e) ∙ other)) (ltb-false n d ge))
      ] refl
    ] refl
  where
    above : n ≢ d → d ≤ n → d + 1 ≤ n
    above h le = omega arith

fewer_less : (a b : DepthKey) → a.depth < b.depth → depth_key_cmp a b ≡ Less
fewer_less a b h = ap (λ t. ordering_then (cond t Less (cond (a.depth == b.depth) Equal Greater)) (path_cmp a.path b.path)) (lt-ltb a.depth b.depth h)

above_append : (a : DepthKey) (xs ys : List DepthKey) → AllByRecursion (λ y. depth_key_cmp a y ≡ Less) xs → AllByRecursion (λ y. depth_key_cmp a y ≡ Less) ys → AllByRecursion (λ y. depth_key_cmp a y ≡ Less) (xs ++ ys)
above_append a [] ys p q = q
above_append a (x ∷ xs) ys p q = (p.0, above_append a xs ys p.1 q)

deeper_above : (a : DepthKey) (depth : ℕ) (ys : List DepthKey) → a.depth < depth → AllByRecursion (λ y. y.depth ≡ depth) ys → AllByRecursion (λ y. depth_key_cmp a y ≡ Less) ys
deeper_above a depth [] p q = tt
deeper_above a depth (y ∷ ys) p q = (fewer_less a y (subst (λ (n : ℕ). a.depth < n) (sym q.0) p), deeper_above a depth ys p q.1)

-- keys that ascend go on to ascend with deeper ones
deeper_ascend : (depth : ℕ) (xs ys : List DepthKey) → IsStrictlySortedBy depth_key_cmp xs → AllByRecursion (λ x. x.depth < depth) xs → IsStrictlySortedBy depth_key_cmp ys → AllByRecursion (λ y. y.depth ≡ depth) ys → IsStrictlySortedBy depth_key_cmp (xs ++ ys)
unfolding IsStrictlySortedBy
deeper_ascend depth [] ys p l q d = q
deeper_ascend depth (x ∷ xs) ys p l q d = (above_append x xs ys p.0 (deeper_above x depth ys l.0 d), deeper_ascend depth xs ys p.1 l.1 q d)

still_shallow : (depth : ℕ) (xs ys : List DepthKey) → AllByRecursion (λ x. x.depth < depth) xs → AllByRecursion (λ y. y.depth ≡ depth) ys → AllByRecursion (λ p. p.depth < depth + 1) (xs ++ ys)
still_shallow depth [] [] l d = tt
still_shallow depth [] (y ∷ ys) l d = (omega (arith, d.0), still_shallow depth [] ys l d.1)
still_shallow depth (x ∷ xs) ys l d = (omega (arith, l.0), still_shallow depth xs ys l.1 d)

pub gathered_more : (m : BTreeMap DepthKey StoredPrim) (path : Path) (depth : ℕ) (key_list : List DepthKey) → IsSound m → tree.IsOrdered depth_key_cmp m → IsGathered m path depth key_list → IsGathered m path (depth + 1) (key_list ++ filter (is_at_depth depth path) (tree.keys m))
gathered_more m path depth key_list sound ordered h = record {
  ascending = deeper_ascend depth key_list (filter (is_at_depth depth path) (tree.keys m)) h.ascending h.shallow (IsStrictlySortedBy-filter depth_key_cmp (is_at_depth depth path) (tree.keys m) ordered) (deep_pass depth path (tree.keys m));
  shallow = still_shallow depth key_list (filter (is_at_depth depth path) (tree.keys m)) h.shallow (deep_pass depth path (tree.keys m));
  placed = all_append is_placed key_list (filter (is_at_depth depth path) (tree.keys m)) h.placed (placed_all (filter (is_at_depth depth path) (tree.keys m)) (by_recursion (tree.keys m) (is_at_depth depth path) (keys_placed m sound)));
  listed = λ q.
      list_any-append (eq_by_cmp depth_key_cmp (depth_key_of q)) key_list (filter (is_at_depth depth path) (tree.keys m))
      ∙ ap (λ b. b || is_listed (filter (is_at_depth depth path) (tree.keys m)) (depth_key_of q)) (h.listed q)
      ∙ ap (λ b. (nat_lt (length q) depth && (is_prefix path q && is_some (tree.get depth_key_cmp m (depth_key_of q)))) || b) (listed_there m (is_at_depth depth path) (depth_key_of q))
      ∙ distributed (nat_lt (length q) depth) (length q == depth) (is_prefix path q) (is_some (tree.get depth_key_cmp m (depth_key_of q)))
      ∙ ap (λ b. b && (is_prefix path q && is_some (tree.get depth_key_cmp m (depth_key_of q)))) (sym (lt_next (length q) depth));
}
  where
    distributed : (a b p s : Bool) → ((a && (p && s)) || ((b && p) && s)) ≡ ((a || b) && (p && s))
    distributed true b true true = refl
    distributed true true true false = refl
    distributed true false true false = refl
    distributed true true false s = refl
    distributed true false false s = refl
    distributed false true p s = refl
    distributed false false p s = refl

-- no path has more names than the limit
pub gathered_all : (m : BTreeMap DepthKey StoredPrim) (path : Path) (key_list : List DepthKey) → IsIndex m → IsGathered m path 33 key_list → IsSubtree m path key_list
gathered_all m path key_list index h = record {
  ascending = h.ascending;
  placed = h.placed;
  listed = λ p.
      h.listed p
      ∙ elim (is_some (tree.get depth_key_cmp m (depth_key_of p))) as (λ b. is_some (tree.get depth_key_cmp m (depth_key_of p)) ≡ b → (nat_lt (length p) 33 && (is_prefix path p && b)) ≡ (is_prefix path p && b)) [
        | true ↦ λ there.
            let is_path : IsPath p = index.closed.paths p (scene_has (layer_in m) p ∙ layer_has m index.sound p ∙ there) in
            let shallow : length p ≤ 32 = is_path.shallow in
            ap (λ b. b && (is_prefix path p && true)) (lt-ltb (length p) 33 (omega arith))
        | false ↦ λ _. nothing (nat_lt (length p) 33) (is_prefix path p)
      ] refl;
}
  where
    nothing : (a b : Bool) → (a && (b && false)) ≡ (b && false)
    nothing true b = refl
    nothing false true = refl
    nothing false false = refl

pub taken_next : (key_list : List DepthKey) (i : ℕ) (p : DepthKey) → i < length key_list → p ≡ get_or key_list i p → take (i + 1) key_list ≡ take i key_list ++ p ∷ []
taken_next key_list i p below is = take_more key_list i p below ∙ ap (λ (x : DepthKey). take i key_list ++ x ∷ []) (sym is)

-- the names of the keys gone through, and of the next one
pub names_more : (path : Path) (key_list : List DepthKey) (i : ℕ) (p : DepthKey) → i < length key_list → p ≡ get_or key_list i p
    → filter_map (child_name path) (map (λ (x : DepthKey). x.path) (take i key_list)) ++ filter_map (child_name path) (p.path ∷ []) ≡ filter_map (child_name path) (map (λ (x : DepthKey). x.path) (take (i + 1) key_list))
names_more path key_list i p below is =
    sym (filter_map-append (child_name path) (map (λ (x : DepthKey). x.path) (take i key_list)) (p.path ∷ []))
    ∙ ap (filter_map (child_name path)) (sym (map-append (λ (x : DepthKey). x.path) (take i key_list) (p ∷ [])) ∙ ap (map (λ (x : DepthKey). x.path)) (sym (taken_next key_list i p below is)))

-- the keys gone through are out, and the next one
pub without_more : (old m n : BTreeMap DepthKey StoredPrim) (key_list : List DepthKey) (i : ℕ) (p : DepthKey) → i < length key_list → p ≡ get_or key_list i p → IsWithout old (take i key_list) m
    → ((q : DepthKey) → tree.get depth_key_cmp n q ≡ cond (is_eq (depth_key_cmp p q)) None (tree.get depth_key_cmp m q)) → IsWithout old (take (i + 1) key_list) n
without_more old m n key_list i p below is before taken = λ q.
    taken q
    ∙ ap (cond (is_eq (depth_key_cmp p q)) None) (before q)
    ∙ both (is_eq (depth_key_cmp p q)) (is_listed (take i key_list) q) (tree.get depth_key_cmp old q)
    ∙ ap (λ b. cond (is_listed (take i key_list) q || (b || false)) None (tree.get depth_key_cmp old q)) ((eq_by_cmp_equiv depth_key_cmp_total).symm p q)
    ∙ ap (λ b. cond b None (tree.get depth_key_cmp old q)) (sym (list_any-append (eq_by_cmp depth_key_cmp q) (take i key_list) (p ∷ [])) ∙ ap (λ (ps : List DepthKey). is_listed ps q) (sym (taken_next key_list i p below is)))
  where
    both : (a b : Bool) (o : Option StoredPrim) → cond a None (cond b None o) ≡ cond (b || (a || false)) None o
    both true true o = refl
    both true false o = refl
    both false true o = refl
    both false false o = refl

-- an answer that is the first list is the other, which equals it
pub names_are : (r : Result (Vec (List ℕ) Global) AllocError) (xs ys : Path) → IfOk r (λ names. names.items ≡ xs) → xs ≡ ys → IfOk r (λ names. names.items ≡ ys)
names_are (Ok names) xs ys h same = h ∙ same
names_are (Err e) xs ys h same = tt
