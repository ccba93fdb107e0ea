-- What a tree of entries has at a path.
use Rattle.std.proofs.Common.{◌≡◌, Bool, true, false, cond, List, [], ◌∷◌, filter, map, length, Option, Some, None, refl, sym, ◌∙◌, ap, subst}
use Rattle.std.proofs.lemmas.Cmp.{eq_by_cmp_equiv}
use Rattle.std.proofs.lemmas.Map.Views.{tells_apart}
use Rattle.std.specs.BTreeMap as tree
use Rattle.std.specs.BTreeMap.{BTreeMap}
use Rattle.std.specs.FinMap.{get, len, entries, find, from_entries, get-from_entries, len-entries, same_map}
use Rattle.std.specs.List.{AllByRecursion}
use Rattle.std.specs.List.Sorted.{IsStrictlySortedBy}
use Rattle.std.specs.Map.{lookup, keys_of}
use Rattle.std.specs.Option.{option_map, option_or}
use Rattle.std.specs.Ordering.{is_eq, eq_by_cmp}
use Rattle.std.specs.declared.cmp.Ordering.{Ordering}
use Rattle.std.specs.declared.cmp.Ordering.TheVariants.{Less}
use Rattle.hd_path.specs.Paths.{Path, path_cmp}
use Rattle.hd_path.specs.inner.Comparing.{names_ties, names_same}
use Rattle.hd_scene.proofs.Ascending.{entries-from_entries}
use Rattle.hd_scene.proofs.Children.{path_cmp_total, path_cmp_exact}
use Rattle.hd_scene.specs.Tells.{is_same_path}
use Rattle.hd_tracker.specs.declared.tracker.Tracked.{Tracked}
use Rattle.hd_tracker.specs.Tracks.{Tracks}

abbrev pub Tree : Type 0
Tree = BTreeMap Path Tracked

-- the map that a tree is seen as
abbrev pub tracks_of : Tree → Tracks
tracks_of m = from_entries m.entries

find_kept : (es : List (Path × Tracked)) (p : Path) → find path_cmp p es ≡ lookup (λ k. is_eq (path_cmp p k)) es
find_kept [] p = refl
find_kept (e ∷ es) p = ap (cond (eq_by_cmp path_cmp p e.0) (Some e.1)) (find_kept es p)

-- what it has at a path is what the tree has there
pub get-tracks : (m : Tree) (p : Path) → get (tracks_of m) p ≡ tree.get path_cmp m p
get-tracks m p = get-from_entries path_cmp_total m.entries p ∙ find_kept m.entries p

-- trees that answer alike are seen alike
pub same_tracks : (m n : Tree) → ((p : Path) → tree.get path_cmp n p ≡ tree.get path_cmp m p) → tracks_of n ≡ tracks_of m
same_tracks m n h = same_map path_cmp_total path_cmp_exact (tracks_of n) (tracks_of m) (λ p. get-tracks n p ∙ h p ∙ sym (get-tracks m p))

-- its entries are those of the tree
pub entries-tracks : (m : Tree) → tree.IsOrdered path_cmp m → entries (tracks_of m) ≡ m.entries
entries-tracks m ordered = entries-from_entries path_cmp_total m.entries ordered

pub len-tracks : (m : Tree) → tree.IsOrdered path_cmp m → len (tracks_of m) ≡ length m.entries
len-tracks m ordered = len-entries (tracks_of m) ∙ ap length (entries-tracks m ordered)

-- a look-up compares paths as a notice does
pub is_at_path : (path p : Path) → is_eq (path_cmp path p) ≡ is_same_path path p
is_at_path path p = sym (names_ties path p)

-- a look-up where entries are left out by their paths
pub lookup-filter : (test : Path → Bool) (es : List (Path × Tracked)) (p : Path)
    → lookup (λ k. is_eq (path_cmp p k)) (filter (λ (e : Path × Tracked). test e.0) es) ≡ cond (test p) (lookup (λ k. is_eq (path_cmp p k)) es) None
lookup-filter test [] p = nothing (test p)
  where
    nothing : (b : Bool) → let none : Option Tracked = None in none ≡ cond b none none
    nothing true = refl
    nothing false = refl
lookup-filter test (e ∷ es) p =
    elim (is_eq (path_cmp p e.0)) as (λ b. is_eq (path_cmp p e.0) ≡ b → lookup (λ k. is_eq (path_cmp p k)) (cond (test e.0) (e ∷ rest) rest) ≡ cond (test p) (cond b (Some e.1) (lookup (λ k. is_eq (path_cmp p k)) es)) None) [
      | true ↦ λ same.
          ap (λ (q : Path). lookup (λ k. is_eq (path_cmp p k)) (cond (test q) (e ∷ rest) rest)) (sym (tells_apart path_cmp_exact p e.0 same))
          ∙ here same (lookup-filter test es p) (test p) refl
      | false ↦ λ other. elsewhere other (lookup-filter test es p) (test e.0)
    ] refl
  where
    rest : List (Path × Tracked)
    rest = filter (λ (e : Path × Tracked). test e.0) es

    here : is_eq (path_cmp p e.0) ≡ true → lookup (λ k. is_eq (path_cmp p k)) rest ≡ cond (test p) (lookup (λ k. is_eq (path_cmp p k)) es) None
        → (b : Bool) → test p ≡ b → lookup (λ k. is_eq (path_cmp p k)) (cond b (e ∷ rest) rest) ≡ cond b (Some e.1) None
    here same tail true passes = ap (λ b. cond b (Some e.1) (lookup (λ k. is_eq (path_cmp p k)) rest)) same
    here same tail false fails = tail ∙ ap (λ b. cond b (lookup (λ k. is_eq (path_cmp p k)) es) None) fails

    elsewhere : is_eq (path_cmp p e.0) ≡ false → lookup (λ k. is_eq (path_cmp p k)) rest ≡ cond (test p) (lookup (λ k. is_eq (path_cmp p k)) es) None
        → (b : Bool) → lookup (λ k. is_eq (path_cmp p k)) (cond b (e ∷ rest) rest) ≡ cond (test p) (lookup (λ k. is_eq (path_cmp p k)) es) None
    elsewhere other tail true = ap (λ b. cond b (Some e.1) (lookup (λ k. is_eq (path_cmp p k)) rest)) other ∙ tail
    elsewhere other tail false = tail

-- a look-up where each value is changed
pub lookup-map : (change : Tracked → Tracked) (es : List (Path × Tracked)) (p : Path)
    → lookup (λ k. is_eq (path_cmp p k)) (map (λ (e : Path × Tracked). (e.0, change e.1)) es) ≡ option_map change (lookup (λ k. is_eq (path_cmp p k)) es)
lookup-map change [] p = refl
lookup-map change (e ∷ es) p =
    elim (is_eq (path_cmp p e.0)) as (λ b. cond b (Some (change e.1)) (lookup (λ k. is_eq (path_cmp p k)) (map (λ (e : Path × Tracked). (e.0, change e.1)) es)) ≡ option_map change (cond b (Some e.1) (lookup (λ k. is_eq (path_cmp p k)) es))) [
      | true ↦ refl
      | false ↦ lookup-map change es p
    ]

-- what is seen at a path after one value was written over
pub changed_at : (m n : Tree) (path : Path) (change : Tracked → Tracked) (t new : Tracked) → tree.get path_cmp m path ≡ Some t → new ≡ change t
    → ((q : Path) → tree.get path_cmp n q ≡ cond (is_eq (path_cmp path q)) (Some new) (tree.get path_cmp m q))
    → (p : Path) → get (tracks_of n) p ≡ cond (is_same_path path p) (option_map change (get (tracks_of m) p)) (get (tracks_of m) p)
changed_at m n path change t new there is written p =
    get-tracks n p
    ∙ written p
    ∙ ap (λ b. cond b (Some new) (tree.get path_cmp m p)) (is_at_path path p)
    ∙ by (is_same_path path p) refl
    ∙ ap (λ (o : Option Tracked). cond (is_same_path path p) (option_map change o) o) (sym (get-tracks m p))
  where
    by : (b : Bool) → is_same_path path p ≡ b → cond b (Some new) (tree.get path_cmp m p) ≡ cond b (option_map change (tree.get path_cmp m p)) (tree.get path_cmp m p)
    by true same = ap (λ (x : Tracked). Some x) is ∙ ap (option_map change) (sym there ∙ ap (λ (q : Path). tree.get path_cmp m q) (names_same path p same))
    by false other = refl

-- and after none was, since none is there
pub unchanged_at : (m n : Tree) (path : Path) (change : Tracked → Tracked) → tree.get path_cmp m path ≡ None → n ≡ m
    → (p : Path) → get (tracks_of n) p ≡ cond (is_same_path path p) (option_map change (get (tracks_of m) p)) (get (tracks_of m) p)
unchanged_at m n path change none same p =
    ap (λ (x : Tree). get (tracks_of x) p) same
    ∙ get-tracks m p
    ∙ by (is_same_path path p) refl
    ∙ ap (λ (o : Option Tracked). cond (is_same_path path p) (option_map change o) o) (sym (get-tracks m p))
  where
    by : (b : Bool) → is_same_path path p ≡ b → tree.get path_cmp m p ≡ cond b (option_map change (tree.get path_cmp m p)) (tree.get path_cmp m p)
    by true here =
        let nothing : tree.get path_cmp m p ≡ None = ap (λ (q : Path). tree.get path_cmp m q) (sym (names_same path p here)) ∙ none in
        nothing ∙ ap (option_map change) (sym nothing)
    by false other = refl

-- entries that are left, and what a copy of those before has, are all
not_later : (p : Path) (es : List (Path × Tracked)) → AllByRecursion (λ q. path_cmp p q ≡ Less) (keys_of es) → lookup (λ k. is_eq (path_cmp p k)) es ≡ None
not_later p [] h = refl
not_later p (e ∷ es) h = ap (λ (r : Ordering). cond (is_eq r) (Some e.1) (lookup (λ k. is_eq (path_cmp p k)) es)) h.0 ∙ not_later p es h.1

pub moved_one : (e : Path × Tracked) (es : List (Path × Tracked)) (old new : Option Tracked) (p : Path) → IsStrictlySortedBy path_cmp (keys_of (e ∷ es)) → new ≡ cond (is_same_path e.0 p) (Some e.1) old
    → option_or (lookup (λ k. is_eq (path_cmp p k)) es) new ≡ option_or (lookup (λ k. is_eq (path_cmp p k)) (e ∷ es)) old
unfolding IsStrictlySortedBy
moved_one e es old new p ascending put =
    ap (option_or (lookup (λ k. is_eq (path_cmp p k)) es)) put
    ∙ by (is_same_path e.0 p) refl
    ∙ ap (λ b. option_or (cond b (Some e.1) (lookup (λ k. is_eq (path_cmp p k)) es)) old) (sym (is_at_path e.0 p) ∙ (eq_by_cmp_equiv path_cmp_total).symm e.0 p)
  where
    by : (b : Bool) → is_same_path e.0 p ≡ b → option_or (lookup (λ k. is_eq (path_cmp p k)) es) (cond b (Some e.1) old) ≡ option_or (cond b (Some e.1) (lookup (λ k. is_eq (path_cmp p k)) es)) old
    by true same =
        let none : lookup (λ k. is_eq (path_cmp p k)) es ≡ None =
        subst (λ (q : Path). lookup (λ k. is_eq (path_cmp q k)) es ≡ None) (names_same e.0 p same) (not_later e.0 es ascending.0) in
        ap (λ (o : Option Tracked). option_or o (Some e.1)) none
    by false other = refl

pub sorted_rest : (p : Path) (ps : List Path) → IsStrictlySortedBy path_cmp (p ∷ ps) → IsStrictlySortedBy path_cmp ps
unfolding IsStrictlySortedBy
sorted_rest p ps h = h.1
