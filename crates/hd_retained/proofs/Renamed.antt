-- A renamed layer is closed, and has at each path what was moved there or stayed.
use Rattle.std.proofs.Common.{◌≡◌, ◌≢◌, ℕ, ◌≤◌, Bool, true, false, not, cond, ◌&&◌, ◌||◌, if◌then◌else◌, nat_lt, List, [], ◌∷◌, ◌++◌, length, drop, Option, Some, None, is_some, Result, Ok, Err, All, refl, sym, ◌∙◌, ap, subst, append_assoc}
use Rattle.std.proofs.lemmas.Bool.{ltb-false}
use Rattle.std.proofs.lemmas.List.Elements.{recursion_from_All, All-from_recursion}
use Rattle.std.specs.List.{AllByRecursion, list_any}
use Rattle.std.specs.Ordering.{eq_by_cmp}
use Rattle.std.specs.FinMap.{get, contains_key, keys, contains_key-keys}
use Rattle.hd_path.specs.Names.{Name, IsName, is_same}
use Rattle.hd_path.specs.Paths.{Path, IsPath, path_cmp, is_prefix}
use Rattle.hd_layer.specs.declared.limits.Which.TheVariants.{Depth}
use Rattle.hd_path.proofs.NamePrefixes.{same_text, same_itself, and_true, split_last}
use Rattle.hd_path.proofs.Logic.{true_is_not}
use Rattle.hd_scene.specs.Scenes.{IsClosed}
use Rattle.hd_scene.proofs.Closing.{tied}
use Rattle.hd_retained.specs.declared.fault.EditFault.{EditFault}
use Rattle.hd_retained.specs.declared.fault.EditFault.TheVariants.{NoPrim, PrimThere, UnderItself, Limit}
use Rattle.hd_retained.specs.Layers.{Layer, scene_of}
use Rattle.hd_retained.specs.Edits.{has_parent, moved_path, is_moved_too_deep, after_rename}
use Rattle.hd_retained.specs.inner.Indexed.{CanMove}
use Rattle.hd_retained.specs.Laws.{IsMoved}
use Rattle.hd_retained.proofs.Closed.{HasParents, has_parents, closed_by, parent_apart, parent_there, front_prefix}
use Rattle.hd_retained.proofs.Moving.{IsFree, renamed, get-renamed, moved_in, moved_prefix, moved_back, prefix_split, drop_front}

-- where a prim is, one is at each path above it
above_one : (layer : Layer) (path : Path) (name : Name) → HasParents layer → path ≢ [] → is_some (get layer (path ++ name ∷ [])) ≡ true → is_some (get layer path) ≡ true
above_one layer [] name own below_root there = absurd (below_root refl)
above_one layer (x ∷ path) name own below_root there =
    let parts = split_last x path in
    let at : (x ∷ path) ++ name ∷ [] ≡ parts.0 ++ parts.1 ∷ name ∷ [] = ap (λ (z : Path). z ++ name ∷ []) parts.2 ∙ append_assoc parts.0 (parts.1 ∷ []) (name ∷ []) in
    ap (λ (q : Path). is_some (get layer q)) parts.2 ∙ own.parents parts.0 parts.1 name (ap (λ (q : Path). is_some (get layer q)) (sym at) ∙ there)

above_there : (layer : Layer) (path rest : Path) → HasParents layer → path ≢ [] → is_some (get layer (path ++ rest)) ≡ true → is_some (get layer path) ≡ true
above_there layer path [] own below_root there = ap (λ (q : Path). is_some (get layer q)) (sym (nothing path)) ∙ there
  where
    nothing : (xs : Path) → xs ++ [] ≡ xs
    nothing [] = refl
    nothing (x ∷ xs) = ap (λ (ys : Path). x ∷ ys) (nothing xs)
above_there layer path (x ∷ rest) own below_root there =
    above_one layer path x own below_root (above_there layer (path ++ x ∷ []) rest own (some path) (ap (λ (q : Path). is_some (get layer q)) (append_assoc path (x ∷ []) rest) ∙ there))
  where
    some : (xs : Path) → xs ++ x ∷ [] ≢ []
    some [] e = cc
    some (y ∷ ys) e = cc

none_is : {X : Type 0} (o : Option X) → (is_some o ≡ true → ⊥) → o ≡ None
none_is None h = refl
none_is (Some x) h = absurd (h refl)

-- nothing is below a path at which nothing is
pub free_below : (layer : Layer) (to : Path) → IsClosed (scene_of layer) → to ≢ [] → contains_key layer to ≡ false → IsFree layer to
free_below layer to closed below_root free q begins =
    none_is (get layer q) (λ there.
    true_is_not (sym (above_there layer to (drop (length to) q) (has_parents layer closed) below_root (ap (λ (z : Path). is_some (get layer z)) (prefix_split to q begins) ∙ there)) ∙ free))

-- no path of the layer is moved too deep
pub moved_shallow : (layer : Layer) (from to p : Path) → list_any (is_moved_too_deep from to) (keys layer) ≡ false → is_some (get layer p) ≡ true → is_prefix from p ≡ true → length (moved_path from to p) ≤ 32
moved_shallow layer from to p shallow there begins =
    ltb-false 32 (length (moved_path from to p)) (sym (ap (λ b. b && nat_lt 32 (length (moved_path from to p))) begins) ∙ none_of (keys layer) shallow (sym (contains_key-keys layer p) ∙ there))
  where
    none_of : (ks : List Path) → list_any (is_moved_too_deep from to) ks ≡ false → list_any (eq_by_cmp path_cmp p) ks ≡ true → is_moved_too_deep from to p ≡ false
    none_of [] h listed = true_is_not (sym listed)
    none_of (k ∷ ks) h listed =
        elim (eq_by_cmp path_cmp p k) as (λ b. eq_by_cmp path_cmp p k ≡ b → (b || list_any (eq_by_cmp path_cmp p) ks) ≡ true → is_moved_too_deep from to p ≡ false) [
          | true ↦ λ same _. ap (is_moved_too_deep from to) (tied p k same) ∙ (or_parts (is_moved_too_deep from to k) (list_any (is_moved_too_deep from to) ks) h).0
          | false ↦ λ _ later. none_of ks (or_parts (is_moved_too_deep from to k) (list_any (is_moved_too_deep from to) ks) h).1 later
        ] refl listed
      where
        or_parts : (a b : Bool) → (a || b) ≡ false → (a ≡ false) × (b ≡ false)
        or_parts true b e = true_is_not e
        or_parts false b e = (refl, e)

named_append : (xs ys : Path) → AllByRecursion IsName xs → AllByRecursion IsName ys → AllByRecursion IsName (xs ++ ys)
named_append [] ys a b = b
named_append (x ∷ xs) ys a b = (a.0, named_append xs ys a.1 b)

named_end : (xs ys : Path) → AllByRecursion IsName (xs ++ ys) → AllByRecursion IsName ys
named_end [] ys h = h
named_end (x ∷ xs) ys h = named_end xs ys h.1

moved_named : (from to p : Path) → IsPath to → IsPath p → is_prefix from p ≡ true → All IsName (moved_path from to p)
moved_named from to p is_to is_path begins =
    let whole : AllByRecursion IsName (from ++ drop (length from) p) = subst (AllByRecursion IsName) (sym (prefix_split from p begins)) (recursion_from_All IsName p is_path.named) in
    All-from_recursion IsName (moved_path from to p)
    (subst (AllByRecursion IsName) (sym (moved_in from to p begins)) (named_append to (drop (length from) p) (recursion_from_All IsName to is_to.named) (named_end from (drop (length from) p) whole)))

has_renamed : (layer : Layer) (from to q : Path) → IsFree layer to → is_some (get (renamed layer from to) q) ≡ cond (is_prefix to q) (is_some (get layer (moved_path to from q))) (cond (is_prefix from q) false (is_some (get layer q)))
has_renamed layer from to q free = ap is_some (get-renamed layer from to q free) ∙ choice (is_prefix to q) (is_prefix from q)
  where
    choice : (a b : Bool) → is_some (cond a (get layer (moved_path to from q)) (cond b None (get layer q))) ≡ cond a (is_some (get layer (moved_path to from q))) (cond b false (is_some (get layer q)))
    choice true b = refl
    choice false true = refl
    choice false false = refl

no_prefix : (p : Path) → p ≢ [] → is_prefix p [] ≡ false
no_prefix [] h = absurd (h refl)
no_prefix (x ∷ p) h = refl

kept : (b c : Bool) → cond b false c ≡ true → (b ≡ false) × (c ≡ true)
kept true c e = true_is_not (sym e)
kept false c e = (refl, e)

-- the parent of a moved prim is moved too
parent_moved : (layer : Layer) (from to path : Path) (name below : Name) → HasParents layer → from ≢ [] → is_prefix to (path ++ name ∷ []) ≡ true → is_some (get layer (moved_path to from (path ++ name ∷ below ∷ []))) ≡ true → is_some (get layer (moved_path to from (path ++ name ∷ []))) ≡ true
parent_moved layer from to path name below own below_root begins there =
    let front : Path = path ++ name ∷ [] in
    let whole : path ++ name ∷ below ∷ [] ≡ front ++ below ∷ [] = sym (append_assoc path (name ∷ []) (below ∷ [])) in
    let rest : Path = drop (length to) front in
    let split : to ++ rest ≡ front = prefix_split to front begins in
    let moved_child : moved_path to from (path ++ name ∷ below ∷ []) ≡ (from ++ rest) ++ below ∷ [] =
    ap (moved_path to from) (whole ∙ ap (λ (z : Path). z ++ below ∷ []) (sym split) ∙ append_assoc to rest (below ∷ []))
    ∙ moved_in to from (to ++ (rest ++ below ∷ [])) (front_prefix to (rest ++ below ∷ []))
    ∙ ap (λ (z : Path). from ++ z) (drop_front to (rest ++ below ∷ []))
    ∙ sym (append_assoc from rest (below ∷ [])) in
    let moved_parent : moved_path to from front ≡ from ++ rest = moved_in to from front begins in
    ap (λ (q : Path). is_some (get layer q)) moved_parent
    ∙ above_one layer (from ++ rest) below own (longer from below_root) (ap (λ (q : Path). is_some (get layer q)) (sym moved_child) ∙ there)
  where
    longer : (xs : Path) → xs ≢ [] → xs ++ drop (length to) (path ++ name ∷ []) ≢ []
    longer [] h = absurd (h refl)
    longer (x ∷ xs) h = λ e. cc

-- a prefix of a path is one of the parent, or it is the path
prefix_or_whole : (to path : Path) (name below : Name) → is_prefix to (path ++ name ∷ below ∷ []) ≡ true → is_prefix to (path ++ name ∷ []) ≡ false → to ≡ path ++ name ∷ below ∷ []
prefix_or_whole [] path name below a b = true_is_not b
prefix_or_whole (x ∷ to) [] name below a b =
    let both = and_true (is_same x name) (is_prefix to (below ∷ [])) a in
    last to (same_text x name both.0) both.1 (sym (ap (λ t. t && is_prefix to []) both.0) ∙ b)
  where
    last : (to : Path) → x ≡ name → is_prefix to (below ∷ []) ≡ true → is_prefix to [] ≡ false → x ∷ to ≡ name ∷ below ∷ []
    last [] same p q = true_is_not q
    last (y ∷ to) same p q =
        let more = and_true (is_same y below) (is_prefix to []) p in
        ap (λ (z : Name). z ∷ y ∷ to) same ∙ ap (λ (z : Name). name ∷ z ∷ to) (same_text y below more.0) ∙ ap (λ (z : Path). name ∷ below ∷ z) (ends to more.1)
      where
        ends : (to : Path) → is_prefix to [] ≡ true → to ≡ []
        ends [] h = refl
        ends (z ∷ to) h = true_is_not (sym h)
prefix_or_whole (x ∷ to) (y ∷ path) name below a b =
    let both = and_true (is_same x y) (is_prefix to (path ++ name ∷ below ∷ [])) a in
    ap (λ (z : Name). z ∷ to) (same_text x y both.0) ∙ ap (λ (z : Path). y ∷ z) (prefix_or_whole to path name below both.1 (sym (ap (λ t. t && is_prefix to (path ++ name ∷ [])) both.0) ∙ b))

pub rename_closed : (layer : Layer) (from to : Path) → IsClosed (scene_of layer) → from ≢ [] → to ≢ [] → IsPath to → CanMove layer from to → list_any (is_moved_too_deep from to) (keys layer) ≡ false → IsClosed (scene_of (renamed layer from to))
rename_closed layer from to closed from_root to_root is_to can shallow =
    let own = has_parents layer closed in
    let free : IsFree layer to = free_below layer to closed to_root can.free in
    let has : (q : Path) → is_some (get (renamed layer from to) q) ≡ cond (is_prefix to q) (is_some (get layer (moved_path to from q))) (cond (is_prefix from q) false (is_some (get layer q))) = λ q. has_renamed layer from to q free in
    closed_by (renamed layer from to)
    (has []
    ∙ ap (λ b. cond b (is_some (get layer (moved_path to from []))) (cond (is_prefix from []) false (is_some (get layer [])))) (no_prefix to to_root)
    ∙ ap (λ b. cond b false (is_some (get layer []))) (no_prefix from from_root)
    ∙ own.no_root)
    (λ path name below there. has (path ++ name ∷ []) ∙ parent path name below own free (sym (has (path ++ name ∷ below ∷ [])) ∙ there))
    (λ path there. is_path path own (sym (has path) ∙ there))
  where
    at_parent : (path : Path) (name below : Name) → HasParents layer → IsFree layer to → is_prefix to (path ++ name ∷ []) ≡ false → is_some (get layer (path ++ name ∷ [])) ≡ true → is_prefix from (path ++ name ∷ []) ≡ false
        → cond (is_prefix to (path ++ name ∷ [])) (is_some (get layer (moved_path to from (path ++ name ∷ [])))) (cond (is_prefix from (path ++ name ∷ [])) false (is_some (get layer (path ++ name ∷ [])))) ≡ true
    at_parent path name below own free away there out =
        ap (λ b. cond b (is_some (get layer (moved_path to from (path ++ name ∷ [])))) (cond (is_prefix from (path ++ name ∷ [])) false (is_some (get layer (path ++ name ∷ []))))) away
        ∙ ap (λ b. cond b false (is_some (get layer (path ++ name ∷ [])))) out
        ∙ there

    parent : (path : Path) (name below : Name) → HasParents layer → IsFree layer to
        → cond (is_prefix to (path ++ name ∷ below ∷ [])) (is_some (get layer (moved_path to from (path ++ name ∷ below ∷ [])))) (cond (is_prefix from (path ++ name ∷ below ∷ [])) false (is_some (get layer (path ++ name ∷ below ∷ [])))) ≡ true
        → cond (is_prefix to (path ++ name ∷ [])) (is_some (get layer (moved_path to from (path ++ name ∷ [])))) (cond (is_prefix from (path ++ name ∷ [])) false (is_some (get layer (path ++ name ∷ [])))) ≡ true
    parent path name below own free there =
        elim (is_prefix to (path ++ name ∷ below ∷ [])) as (λ b. is_prefix to (path ++ name ∷ below ∷ []) ≡ b → cond b (is_some (get layer (moved_path to from (path ++ name ∷ below ∷ [])))) (cond (is_prefix from (path ++ name ∷ below ∷ [])) false (is_some (get layer (path ++ name ∷ below ∷ [])))) ≡ true → cond (is_prefix to (path ++ name ∷ [])) (is_some (get layer (moved_path to from (path ++ name ∷ [])))) (cond (is_prefix from (path ++ name ∷ [])) false (is_some (get layer (path ++ name ∷ [])))) ≡ true) [
          | true ↦ λ begins child. elim (is_prefix to (path ++ name ∷ [])) as (λ b. is_prefix to (path ++ name ∷ []) ≡ b → cond b (is_some (get layer (moved_path to from (path ++ name ∷ [])))) (cond (is_prefix from (path ++ name ∷ [])) false (is_some (get layer (path ++ name ∷ [])))) ≡ true) [
            | true ↦ λ also. parent_moved layer from to path name below own from_root also child
            | false ↦ λ away.
                let whole : to ≡ path ++ name ∷ below ∷ [] = prefix_or_whole to path name below begins away in
                let out : is_prefix from (path ++ name ∷ []) ≡ false = parent_apart from path name below (ap (is_prefix from) (sym whole) ∙ can.apart) in
                ap (λ b. cond b false (is_some (get layer (path ++ name ∷ [])))) out ∙ parent_there layer to path name below can.parent whole
          ] refl
          | false ↦ λ away child.
              let left = kept (is_prefix from (path ++ name ∷ below ∷ [])) (is_some (get layer (path ++ name ∷ below ∷ []))) child in
              at_parent path name below own free (parent_apart to path name below away) (own.parents path name below left.1) (parent_apart from path name below left.0)
        ] refl there

    is_path : (path : Path) → HasParents layer → cond (is_prefix to path) (is_some (get layer (moved_path to from path))) (cond (is_prefix from path) false (is_some (get layer path))) ≡ true → IsPath path
    is_path path own there =
        elim (is_prefix to path) as (λ b. is_prefix to path ≡ b → cond b (is_some (get layer (moved_path to from path))) (cond (is_prefix from path) false (is_some (get layer path))) ≡ true → IsPath path) [
          | true ↦ λ begins old.
              let back : moved_path from to (moved_path to from path) ≡ path = moved_back to from path begins in
              let at_from : is_prefix from (moved_path to from path) ≡ true = moved_prefix to from path begins in
              subst IsPath back (record {
                shallow = moved_shallow layer from to (moved_path to from path) shallow old at_from;
                named = moved_named from to (moved_path to from path) is_to (own.paths (moved_path to from path) old) at_from;
              })
          | false ↦ λ _ old. own.paths path (kept (is_prefix from path) (is_some (get layer path)) old).1
        ] refl there

-- the last test of a renaming, and the tests before it
abbrev depth_test : Layer → Path → Path → Result Layer EditFault
depth_test layer from to = if list_any (is_moved_too_deep from to) (keys layer) then Err (Limit Depth) else Ok (renamed layer from to)

abbrev tests : (there apart parent free : Bool) → Result Layer EditFault → Result Layer EditFault
tests there apart parent free last = if not there then Err NoPrim else (if apart then Err UnderItself else (if not parent then Err NoPrim else (if free then Err PrimThere else last)))

-- a renaming that may be done fails of a limit alone
pub after_rename_is : (layer : Layer) (from to : Path) → CanMove layer from to → after_rename layer from to ≡ depth_test layer from to
after_rename_is layer from to can =
    ap (λ b. tests b (is_prefix from to) (has_parent layer to) (contains_key layer to) (depth_test layer from to)) can.there
    ∙ ap (λ b. tests true b (has_parent layer to) (contains_key layer to) (depth_test layer from to)) can.apart
    ∙ ap (λ b. tests true false b (contains_key layer to) (depth_test layer from to)) can.parent
    ∙ ap (λ b. tests true false true b (depth_test layer from to)) can.free

pub rename_deep : (layer : Layer) (from to : Path) → CanMove layer from to → list_any (is_moved_too_deep from to) (keys layer) ≡ true → after_rename layer from to ≡ Err (Limit Depth)
rename_deep layer from to can deep = after_rename_is layer from to can ∙ ap (λ b. if b then Err (Limit Depth) else Ok (renamed layer from to)) deep

pub rename_done : (layer new : Layer) (from to : Path) → CanMove layer from to → list_any (is_moved_too_deep from to) (keys layer) ≡ false → new ≡ renamed layer from to → after_rename layer from to ≡ Ok new
rename_done layer new from to can shallow is =
    after_rename_is layer from to can ∙ ap (λ b. if b then Err (Limit Depth) else Ok (renamed layer from to)) shallow ∙ ap (λ (l : Layer). tests true false true false (Ok l)) (sym is)

refused_is_not : (f : EditFault) (l : Layer) → ◌≡◌ {A = Result Layer EditFault} (Err f) (Ok l) → ⊥
refused_is_not f l e = cc

done_is : (l m : Layer) → ◌≡◌ {A = Result Layer EditFault} (Ok l) (Ok m) → l ≡ m
done_is l m e = cc

-- the tests that a renaming that is done has passed
passed : (there apart parent free deep : Bool) (l new : Layer) → tests there apart parent free (if deep then Err (Limit Depth) else Ok l) ≡ Ok new → (there ≡ true) × (apart ≡ false) × (free ≡ false) × (l ≡ new)
passed false apart parent free deep l new e = absurd (refused_is_not NoPrim new e)
passed true true parent free deep l new e = absurd (refused_is_not UnderItself new e)
passed true false false free deep l new e = absurd (refused_is_not NoPrim new e)
passed true false true true deep l new e = absurd (refused_is_not PrimThere new e)
passed true false true false true l new e = absurd (refused_is_not (Limit Depth) new e)
passed true false true false false l new e = (refl, refl, refl, done_is l new e)

-- of two paths that begin a third one, one begins the other
one_within : (a b q : Path) → is_prefix a q ≡ true → is_prefix b q ≡ true → is_prefix a b ≡ false → is_prefix b a ≡ true
one_within [] b q a_begins b_begins apart = true_is_not apart
one_within (x ∷ a) [] q a_begins b_begins apart = refl
one_within (x ∷ a) (y ∷ b) [] a_begins b_begins apart = true_is_not (sym a_begins)
one_within (x ∷ a) (y ∷ b) (z ∷ q) a_begins b_begins apart =
    let first = and_true (is_same x z) (is_prefix a q) a_begins in
    let second = and_true (is_same y z) (is_prefix b q) b_begins in
    let alike : x ≡ y = same_text x z first.0 ∙ sym (same_text y z second.0) in
    let forth : is_same x y ≡ true = sym (ap (is_same x) alike) ∙ same_itself x in
    let back : is_same y x ≡ true = ap (λ (t : List ℕ). is_same t x) (sym alike) ∙ same_itself x in
    ap (λ t. t && is_prefix b a) back ∙ one_within a b q first.1 second.1 (sym (ap (λ t. t && is_prefix a b) forth) ∙ apart)

-- nothing is at or below the second path, so that the first one is not below it
away_from : (layer : Layer) (from to rest : Path) → IsFree layer to → contains_key layer from ≡ true → is_prefix from to ≡ false → is_prefix to (from ++ rest) ≡ false
away_from layer from to rest free there apart =
    elim (is_prefix to (from ++ rest)) as (λ b. is_prefix to (from ++ rest) ≡ b → b ≡ false) [
      | true ↦ λ begins. true_is_not (sym there ∙ ap is_some (free from (one_within from to (from ++ rest) (front_prefix from rest) begins apart)))
      | false ↦ λ _. refl
    ] refl

pub rename_moves : (old new : Layer) (from to : Path) → IsClosed (scene_of old) → to ≢ [] → after_rename old from to ≡ Ok new → IsMoved from to old new
rename_moves old new from to closed to_root done =
    let p = passed (contains_key old from) (is_prefix from to) (has_parent old to) (contains_key old to) (list_any (is_moved_too_deep from to) (keys old)) (renamed old from to) new done in
    let free : IsFree old to = free_below old to closed to_root p.2 in
    let at : (q : Path) → get new q ≡ cond (is_prefix to q) (get old (moved_path to from q)) (cond (is_prefix from q) None (get old q)) = λ q. ap (λ (l : Layer). get l q) (sym p.3) ∙ get-renamed old from to q free in
    record {
      moved = λ rest.
          at (to ++ rest)
          ∙ ap (λ b. cond b (get old (moved_path to from (to ++ rest))) (cond (is_prefix from (to ++ rest)) None (get old (to ++ rest)))) (front_prefix to rest)
          ∙ ap (get old) (moved_in to from (to ++ rest) (front_prefix to rest) ∙ ap (λ (z : Path). from ++ z) (drop_front to rest));
      gone = λ rest.
          at (from ++ rest)
          ∙ ap (λ b. cond b (get old (moved_path to from (from ++ rest))) (cond (is_prefix from (from ++ rest)) None (get old (from ++ rest)))) (away_from old from to rest free p.0 p.1)
          ∙ ap (λ b. cond b None (get old (from ++ rest))) (front_prefix from rest);
      same = λ q out away.
          at q
          ∙ ap (λ b. cond b (get old (moved_path to from q)) (cond (is_prefix from q) None (get old q))) away
          ∙ ap (λ b. cond b None (get old q)) out;
    }
