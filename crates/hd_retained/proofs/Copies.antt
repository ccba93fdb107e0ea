-- The prims at and below a path are copied to another path, and then taken out.
use Rattle.std.proofs.Common.{◌≡◌, ℕ, ◌+◌, ◌<◌, zero, suc, Bool, true, false, cond, ◌&&◌, ◌||◌, List, [], ◌∷◌, ◌++◌, length, get_or, min, take, drop, map, Option, Some, None, is_some, is_err, Result, Ok, Err, OnOk, OnErr, IfErr, refl, sym, ◌∙◌, ap, subst, append_assoc, take-append-drop, arith}
use Rattle.std.proofs.lemmas.Bool.Decides.{Decides-eqb}
use Rattle.std.proofs.lemmas.Cmp.{eq_by_cmp_equiv}
use Rattle.std.proofs.lemmas.List.{map-append, length-take, take-map}
use Rattle.std.proofs.lemmas.List.Folds.{list_any-append}
use Rattle.std.proofs.lemmas.List.Elements.{recursion_from_All}
use Rattle.std.proofs.lemmas.Map.Views.{All-from_any}
use Rattle.std.specs.List.{AllByRecursion, list_all, list_any}
use Rattle.std.specs.Option.{option_map}
use Rattle.std.specs.Result.{IsErrAnd}
use Rattle.std.specs.declared.alloc.AllocError.{AllocError}
use Rattle.std.specs.Ordering.{eq_by_cmp}
use Rattle.std.specs.FinMap.{get, keys, get-insert, contains_key-keys}
use Rattle.std.specs.BTreeMap as tree
use Rattle.std.specs.BTreeMap.{BTreeMap}
use Rattle.hd_path.specs.Paths.{Path, path_cmp, is_prefix}
use Rattle.hd_path.proofs.Logic.{true_is_not}
use Rattle.hd_path.proofs.NamePrefixes.{and_true}
use Rattle.hd_scene.proofs.Children.{path_cmp_total}
use Rattle.hd_scene.proofs.Closing.{tied}
use Rattle.hd_retained.specs.declared.fault.EditFault.{EditFault}
use Rattle.hd_retained.specs.declared.stored.DepthKey.{DepthKey}
use Rattle.hd_retained.specs.declared.stored.StoredPrim.{StoredPrim}
use Rattle.hd_retained.specs.Layers.{LayerPrim, Layer}
use Rattle.hd_retained.specs.Edits.{moved_path, is_moved_too_deep, IsRefusal}
use Rattle.hd_retained.specs.inner.Indexed.{depth_key_cmp, depth_key_of, is_placed, is_listed, prim_of, layer_in, moved_key, is_key_too_deep, with_prim, with_copy, with_copies, IsPartlyCopied, IsSound, IsSubtree, IsWithout}
use Rattle.hd_retained.proofs.DepthKeys.{depth_key_cmp_total, tied_key, key_is}
use Rattle.hd_retained.proofs.Kept.{get-kept, layer_has, same_layer}
use Rattle.hd_retained.proofs.Gathering.{taken_next}
use Rattle.hd_retained.proofs.Closed.{without_sound}
use Rattle.hd_retained.proofs.Moving.{IsFree, renamed, get-renamed, moved_prefix, moved_back, eq_itself}

copies_last : (layer : Layer) (xs ys : List DepthKey) (s t : DepthKey) → length ys ≡ length xs → with_copies layer (xs ++ s ∷ []) (ys ++ t ∷ []) ≡ with_copy (with_copies layer xs ys) s.path t.path
copies_last layer [] [] s t same = refl
copies_last layer [] (y ∷ ys) s t same = absurd (omega arith)
copies_last layer (x ∷ xs) [] s t same = absurd (omega arith)
copies_last layer (x ∷ xs) (y ∷ ys) s t same = copies_last (with_copy layer x.path y.path) xs ys s t (omega arith)

taken_as_many : (xs ys : List DepthKey) (i : ℕ) → length ys ≡ length xs → length (take i ys) ≡ length (take i xs)
taken_as_many xs ys i same = length-take i ys ∙ ap (min i) same ∙ sym (length-take i xs)

-- one more copy
pub copies_more : (layer : Layer) (key_list others : List DepthKey) (i : ℕ) (s t : DepthKey) → length others ≡ length key_list → i < length key_list → i < length others → s ≡ get_or key_list i s → t ≡ get_or others i t
    → with_copy (with_copies layer (take i key_list) (take i others)) s.path t.path ≡ with_copies layer (take (i + 1) key_list) (take (i + 1) others)
copies_more layer key_list others i s t same below also is_s is_t =
    sym (copies_last layer (take i key_list) (take i others) s t (taken_as_many key_list others i same))
    ∙ ap (λ (xs : List DepthKey). with_copies layer xs (take i others ++ t ∷ [])) (sym (taken_next key_list i s below is_s))
    ∙ ap (with_copies layer (take (i + 1) key_list)) (sym (taken_next others i t also is_t))

placed_one : (key_list : List DepthKey) (q : DepthKey) → list_all is_placed key_list ≡ true → is_listed key_list q ≡ true → q ≡ depth_key_of q.path
placed_one [] q all listed = true_is_not (sym listed)
placed_one (p ∷ key_list) q all listed =
    let both = and_true (is_placed p) (list_all is_placed key_list) all in
    elim (eq_by_cmp depth_key_cmp q p) as (λ b. eq_by_cmp depth_key_cmp q p ≡ b → (b || is_listed key_list q) ≡ true → q ≡ depth_key_of q.path) [
      | true ↦ λ same _.
          let deep : q.depth ≡ length q.path = subst (λ (z : DepthKey). z.depth ≡ length z.path) (sym (key_is q p same)) ((Decides-eqb p.depth (length p.path)).0 both.0) in
          ap (λ (n : ℕ). record { depth = n; path = q.path }) deep
      | false ↦ λ _ later. placed_one key_list q both.1 later
    ] refl listed

-- each key of a subtree begins with the path, and a prim is there
record IsBelow (layer : Layer) (from : Path) (p : DepthKey) : Type 0 where
  pub placed : p.depth ≡ length p.path
  pub begins : is_prefix from p.path ≡ true
  pub there : is_some (get layer p.path) ≡ true

all_below : (m : BTreeMap DepthKey StoredPrim) (from : Path) (key_list : List DepthKey) → IsSound m → IsSubtree m from key_list → AllByRecursion (IsBelow (layer_in m) from) key_list
all_below m from key_list sound subtree =
    recursion_from_All (IsBelow (layer_in m) from) key_list (All-from_any (eq_by_cmp_equiv depth_key_cmp_total) (IsBelow (layer_in m) from) key_list (λ q listed.
    let is : q ≡ depth_key_of q.path = placed_one key_list q subtree.placed listed in
    let both = and_true (is_prefix from q.path) (is_some (tree.get depth_key_cmp m (depth_key_of q.path))) (sym (subtree.listed q.path) ∙ ap (is_listed key_list) (sym is) ∙ listed) in
    record { placed = ap (λ (z : DepthKey). z.depth) is; begins = both.0; there = layer_has m sound q.path ∙ both.1 }))

pub all_begin : (m : BTreeMap DepthKey StoredPrim) (from : Path) (key_list : List DepthKey) → IsSound m → IsSubtree m from key_list → list_all (λ (p : DepthKey). is_prefix from p.path) key_list ≡ true
all_begin m from key_list sound subtree = each key_list (all_below m from key_list sound subtree)
  where
    each : (ps : List DepthKey) → AllByRecursion (IsBelow (layer_in m) from) ps → list_all (λ (p : DepthKey). is_prefix from p.path) ps ≡ true
    each [] h = refl
    each (p ∷ ps) h = ap (λ b. b && list_all (λ (x : DepthKey). is_prefix from x.path) ps) h.0.begins ∙ each ps h.1

-- a moved key begins with the new prefix, and moved back it is listed
moved_listed : (layer : Layer) (from to q : Path) (key_list : List DepthKey) → AllByRecursion (IsBelow layer from) key_list → is_listed (map (moved_key from to) key_list) (depth_key_of q) ≡ true → (is_prefix to q ≡ true) × (is_listed key_list (depth_key_of (moved_path to from q)) ≡ true)
moved_listed layer from to q [] all listed = true_is_not (sym listed)
moved_listed layer from to q (p ∷ key_list) all listed =
    elim (eq_by_cmp depth_key_cmp (depth_key_of q) (moved_key from to p)) as (λ b. eq_by_cmp depth_key_cmp (depth_key_of q) (moved_key from to p) ≡ b → (b || is_listed (map (moved_key from to) key_list) (depth_key_of q)) ≡ true → (is_prefix to q ≡ true) × (is_listed (p ∷ key_list) (depth_key_of (moved_path to from q)) ≡ true)) [
      | true ↦ λ same _.
          let is : q ≡ moved_path from to p.path = tied q (moved_path from to p.path) (sym (tied_key q (moved_key from to p) refl) ∙ same) in
          let back : moved_path to from q ≡ p.path = ap (moved_path to from) is ∙ moved_back from to p.path all.0.begins in (
            ap (is_prefix to) is ∙ moved_prefix from to p.path all.0.begins,
            ap (λ b. b || is_listed key_list (depth_key_of (moved_path to from q))) (tied_key (moved_path to from q) p all.0.placed ∙ ap (λ (z : Path). eq_by_cmp path_cmp z p.path) back ∙ eq_itself p.path),
          )
      | false ↦ λ _ later.
          let rest = moved_listed layer from to q key_list all.1 later in
          (rest.0, or_later (eq_by_cmp depth_key_cmp (depth_key_of (moved_path to from q)) p) (is_listed key_list (depth_key_of (moved_path to from q))) rest.1)
    ] refl listed
  where
    or_later : (a b : Bool) → b ≡ true → (a || b) ≡ true
    or_later true b h = refl
    or_later false b h = h

-- and the other way round
listed_moved : (layer : Layer) (from to q : Path) (key_list : List DepthKey) → AllByRecursion (IsBelow layer from) key_list → is_prefix to q ≡ true → is_listed key_list (depth_key_of (moved_path to from q)) ≡ true → is_listed (map (moved_key from to) key_list) (depth_key_of q) ≡ true
listed_moved layer from to q [] all begins listed = listed
listed_moved layer from to q (p ∷ key_list) all begins listed =
    elim (eq_by_cmp depth_key_cmp (depth_key_of (moved_path to from q)) p) as (λ b. eq_by_cmp depth_key_cmp (depth_key_of (moved_path to from q)) p ≡ b → (b || is_listed key_list (depth_key_of (moved_path to from q))) ≡ true → is_listed (map (moved_key from to) (p ∷ key_list)) (depth_key_of q) ≡ true) [
      | true ↦ λ same _.
          let back : moved_path to from q ≡ p.path = tied (moved_path to from q) p.path (sym (tied_key (moved_path to from q) p all.0.placed) ∙ same) in
          let is : q ≡ moved_path from to p.path = sym (moved_back to from q begins) ∙ ap (moved_path from to) back in
          ap (λ b. b || is_listed (map (moved_key from to) key_list) (depth_key_of q)) (tied_key q (moved_key from to p) refl ∙ ap (λ (z : Path). eq_by_cmp path_cmp z (moved_path from to p.path)) is ∙ eq_itself (moved_path from to p.path))
      | false ↦ λ _ later. or_later (eq_by_cmp depth_key_cmp (depth_key_of q) (moved_key from to p)) (is_listed (map (moved_key from to) key_list) (depth_key_of q)) (listed_moved layer from to q key_list all.1 begins later)
    ] refl listed
  where
    or_later : (a b : Bool) → b ≡ true → (a || b) ≡ true
    or_later true b h = refl
    or_later false b h = h

-- at the new keys of those that are done are their prims, and all else is as it was
abbrev IsCopied : Layer → Path → Path → List DepthKey → Layer → Type 0
IsCopied layer from to done now = (q : Path) → get now q ≡ cond (is_listed (map (moved_key from to) done) (depth_key_of q)) (get layer (moved_path to from q)) (get layer q)

some_is : (o : Option LayerPrim) → is_some o ≡ true → (p : LayerPrim) × (o ≡ Some p)
some_is None h = true_is_not (sym h)
some_is (Some p) h = (p, refl)

none_not : (o : Option LayerPrim) → o ≡ None → is_some o ≡ true → ⊥
none_not o e h = true_is_not (sym h ∙ ap is_some e)

not_both : (b : Bool) → (b ≡ true → ⊥) → b ≡ false
not_both true h = absurd (h refl)
not_both false h = refl

copied_next : (layer now : Layer) (from to : Path) (done : List DepthKey) (s : DepthKey) → IsFree layer to → AllByRecursion (IsBelow layer from) done → IsBelow layer from s → IsCopied layer from to done now → IsCopied layer from to (done ++ s ∷ []) (with_copy now s.path (moved_path from to s.path))
copied_next layer now from to done s free all below copied q =
    let old = some_is (get layer s.path) below.there in
    let quiet : is_listed (map (moved_key from to) done) (depth_key_of s.path) ≡ false = not_both (is_listed (map (moved_key from to) done) (depth_key_of s.path)) (λ h. none_not (get layer s.path) (free s.path (moved_listed layer from to s.path done all h).0) below.there) in
    let source : get now s.path ≡ Some old.0 = copied s.path ∙ ap (λ b. cond b (get layer (moved_path to from s.path)) (get layer s.path)) quiet ∙ old.1 in
    let target : Path = moved_path from to s.path in
    ap (λ (o : Option LayerPrim). get (with_prim o now target) q) source
    ∙ get-insert path_cmp_total now target old.0 q
    ∙ ap (cond (eq_by_cmp path_cmp q target) (Some old.0)) (copied q)
    ∙ elim (eq_by_cmp path_cmp q target) as (λ b. eq_by_cmp path_cmp q target ≡ b → cond b (Some old.0) (cond (is_listed (map (moved_key from to) done) (depth_key_of q)) (get layer (moved_path to from q)) (get layer q)) ≡ cond (is_listed (map (moved_key from to) done) (depth_key_of q) || (b || false)) (get layer (moved_path to from q)) (get layer q)) [
      | true ↦ λ same.
          let back : moved_path to from q ≡ s.path = ap (moved_path to from) (tied q target same) ∙ moved_back from to s.path below.begins in
          sym old.1 ∙ ap (get layer) (sym back) ∙ chosen (is_listed (map (moved_key from to) done) (depth_key_of q)) q
      | false ↦ λ _. unchosen (is_listed (map (moved_key from to) done) (depth_key_of q)) q
    ] refl
    ∙ ap (λ b. cond (is_listed (map (moved_key from to) done) (depth_key_of q) || (b || false)) (get layer (moved_path to from q)) (get layer q)) (sym (tied_key q (moved_key from to s) refl))
    ∙ ap (λ b. cond b (get layer (moved_path to from q)) (get layer q)) (sym (list_any-append (eq_by_cmp depth_key_cmp (depth_key_of q)) (map (moved_key from to) done) (moved_key from to s ∷ [])) ∙ ap (λ (ps : List DepthKey). is_listed ps (depth_key_of q)) (sym (map-append (moved_key from to) done (s ∷ []))))
  where
    chosen : (b : Bool) (q : Path) → get layer (moved_path to from q) ≡ cond (b || (true || false)) (get layer (moved_path to from q)) (get layer q)
    chosen true q = refl
    chosen false q = refl

    unchosen : (b : Bool) (q : Path) → cond b (get layer (moved_path to from q)) (get layer q) ≡ cond (b || (false || false)) (get layer (moved_path to from q)) (get layer q)
    unchosen true q = refl
    unchosen false q = refl

below_append : (layer : Layer) (from : Path) (xs ys : List DepthKey) → AllByRecursion (IsBelow layer from) xs → AllByRecursion (IsBelow layer from) ys → AllByRecursion (IsBelow layer from) (xs ++ ys)
below_append layer from [] ys a b = b
below_append layer from (x ∷ xs) ys a b = (a.0, below_append layer from xs ys a.1 b)

copied_rest : (layer now : Layer) (from to : Path) (done rest : List DepthKey) → IsFree layer to → AllByRecursion (IsBelow layer from) done → AllByRecursion (IsBelow layer from) rest → IsCopied layer from to done now → IsCopied layer from to (done ++ rest) (with_copies now rest (map (moved_key from to) rest))
copied_rest layer now from to done [] free all below copied = subst (λ (ps : List DepthKey). IsCopied layer from to ps now) (sym (nothing done)) copied
  where
    nothing : (xs : List DepthKey) → xs ++ [] ≡ xs
    nothing [] = refl
    nothing (x ∷ xs) = ap (λ (ys : List DepthKey). x ∷ ys) (nothing xs)
copied_rest layer now from to done (s ∷ rest) free all below copied =
    subst (λ (ps : List DepthKey). IsCopied layer from to ps (with_copies (with_copy now s.path (moved_path from to s.path)) rest (map (moved_key from to) rest))) (append_assoc done (s ∷ []) rest)
    (copied_rest layer (with_copy now s.path (moved_path from to s.path)) from to (done ++ s ∷ []) rest free (below_append layer from done (s ∷ []) all (below.0, tt)) below.1 (copied_next layer now from to done s free all below.0 copied))

copied_all : (layer : Layer) (from to : Path) (key_list : List DepthKey) → IsFree layer to → AllByRecursion (IsBelow layer from) key_list → IsCopied layer from to key_list (with_copies layer key_list (map (moved_key from to) key_list))
copied_all layer from to key_list free below = copied_rest layer layer from to [] key_list free tt below (λ q. refl)

-- what is left in the layer without some keys
pub get-without : (m n : BTreeMap DepthKey StoredPrim) (key_list : List DepthKey) (q : Path) → IsSound m → IsWithout m key_list n → get (layer_in n) q ≡ cond (is_listed key_list (depth_key_of q)) None (get (layer_in m) q)
get-without m n key_list q sound without =
    get-kept n (without_sound m n key_list sound without) q
    ∙ ap (option_map prim_of) (without (depth_key_of q))
    ∙ choice (is_listed key_list (depth_key_of q)) (tree.get depth_key_cmp m (depth_key_of q))
    ∙ ap (λ (o : Option LayerPrim). cond (is_listed key_list (depth_key_of q)) None o) (sym (get-kept m sound q))
  where
    choice : (b : Bool) (o : Option StoredPrim) → option_map prim_of (cond b None o) ≡ cond b None (option_map prim_of o)
    choice true o = refl
    choice false o = refl

taken_below : (layer : Layer) (from : Path) (key_list : List DepthKey) (i : ℕ) → AllByRecursion (IsBelow layer from) key_list → AllByRecursion (IsBelow layer from) (take i key_list)
taken_below layer from key_list zero h = tt
taken_below layer from [] (suc i) h = tt
taken_below layer from (p ∷ key_list) (suc i) h = (h.0, taken_below layer from key_list i h.1)

-- copies that are taken out again leave the layer as it was
pub copies_undone : (m k n : BTreeMap DepthKey StoredPrim) (from to : Path) (key_list others : List DepthKey) → IsSound m → IsSound k → IsFree (layer_in m) to → IsSubtree m from key_list → others ≡ map (moved_key from to) key_list
    → IsPartlyCopied (layer_in m) key_list others (layer_in k) → IsWithout k others n → layer_in n ≡ layer_in m
copies_undone m k n from to key_list others sound mid free subtree is partly without = same_layer (layer_in n) (layer_in m) (λ q.
    let below = all_below m from key_list sound subtree in
    let few : List DepthKey = take partly.count key_list in
    let made : layer_in k ≡ with_copies (layer_in m) few (map (moved_key from to) few) = partly.is ∙ ap (with_copies (layer_in m) few) (ap (take partly.count) is ∙ take-map (moved_key from to) partly.count key_list) in
    let copied : IsCopied (layer_in m) from to few (layer_in k) = subst (IsCopied (layer_in m) from to few) (sym made) (copied_all (layer_in m) from to few free (taken_below (layer_in m) from key_list partly.count below)) in
    get-without k n others q mid without
    ∙ elim (is_listed others (depth_key_of q)) as (λ b. is_listed others (depth_key_of q) ≡ b → cond b None (get (layer_in k) q) ≡ get (layer_in m) q) [
      | true ↦ λ listed. sym (free q (moved_listed (layer_in m) from to q key_list below (ap (λ (ps : List DepthKey). is_listed ps (depth_key_of q)) (sym is) ∙ listed)).0)
      | false ↦ λ away. copied q ∙ ap (λ b. cond b (get (layer_in m) (moved_path to from q)) (get (layer_in m) q)) (fewer q few (drop partly.count key_list) (ap (λ (ps : List DepthKey). is_listed (map (moved_key from to) ps) (depth_key_of q)) (take-append-drop partly.count key_list) ∙ ap (λ (ps : List DepthKey). is_listed ps (depth_key_of q)) (sym is) ∙ away))
    ] refl)
  where
    first : (a b : Bool) → (a || b) ≡ false → a ≡ false
    first true b e = e
    first false b e = refl

    fewer : (q : Path) (xs ys : List DepthKey) → is_listed (map (moved_key from to) (xs ++ ys)) (depth_key_of q) ≡ false → is_listed (map (moved_key from to) xs) (depth_key_of q) ≡ false
    fewer q xs ys h = first (is_listed (map (moved_key from to) xs) (depth_key_of q)) (is_listed (map (moved_key from to) ys) (depth_key_of q)) (sym (list_any-append (eq_by_cmp depth_key_cmp (depth_key_of q)) (map (moved_key from to) xs) (map (moved_key from to) ys)) ∙ ap (λ (ps : List DepthKey). is_listed ps (depth_key_of q)) (sym (map-append (moved_key from to) xs ys)) ∙ h)

none_is : {X : Type 0} (o : Option X) → (is_some o ≡ true → ⊥) → o ≡ None
none_is None h = refl
none_is (Some x) h = absurd (h refl)

-- copies whose sources are taken out make the renamed layer
pub copies_done : (m k n : BTreeMap DepthKey StoredPrim) (from to : Path) (key_list others : List DepthKey) → IsSound m → IsSound k → IsFree (layer_in m) to → IsSubtree m from key_list → others ≡ map (moved_key from to) key_list
    → layer_in k ≡ with_copies (layer_in m) key_list others → IsWithout k key_list n → layer_in n ≡ renamed (layer_in m) from to
copies_done m k n from to key_list others sound mid free subtree is made without = same_layer (layer_in n) (renamed (layer_in m) from to) (λ q.
    let copied : IsCopied layer from to key_list (layer_in k) = subst (IsCopied layer from to key_list) (sym (made ∙ ap (with_copies layer key_list) is)) (copied_all layer from to key_list free below) in
    get-without k n key_list q mid without
    ∙ ap (λ (o : Option LayerPrim). cond (is_listed key_list (depth_key_of q)) None o) (copied q)
    ∙ ap (λ b. cond b None (cond (is_listed (map (moved_key from to) key_list) (depth_key_of q)) (get layer (moved_path to from q)) (get layer q))) (listed_is q)
    ∙ elim (is_prefix to q) as (λ b. is_prefix to q ≡ b → cond (is_prefix from q && is_some (get layer q)) None (cond (is_listed (map (moved_key from to) key_list) (depth_key_of q)) (get layer (moved_path to from q)) (get layer q)) ≡ cond b (get layer (moved_path to from q)) (cond (is_prefix from q) None (get layer q))) [
      | true ↦ λ begins. at_new q begins
      | false ↦ λ away. elsewhere q away
    ] refl
    ∙ sym (get-renamed layer from to q free))
  where
    layer : Layer
    layer = layer_in m

    below : AllByRecursion (IsBelow layer from) key_list
    below = all_below m from key_list sound subtree

    listed_is : (q : Path) → is_listed key_list (depth_key_of q) ≡ (is_prefix from q && is_some (get layer q))
    listed_is q = subtree.listed q ∙ ap (λ b. is_prefix from q && b) (sym (layer_has m sound q))

    never : (b : Bool) → (b && false) ≡ false
    never true = refl
    never false = refl

    at_new : (q : Path) → is_prefix to q ≡ true → cond (is_prefix from q && is_some (get layer q)) None (cond (is_listed (map (moved_key from to) key_list) (depth_key_of q)) (get layer (moved_path to from q)) (get layer q)) ≡ get layer (moved_path to from q)
    at_new q begins =
        ap (λ b. cond b None (cond (is_listed (map (moved_key from to) key_list) (depth_key_of q)) (get layer (moved_path to from q)) (get layer q))) (ap (λ (o : Option LayerPrim). is_prefix from q && is_some o) (free q begins) ∙ never (is_prefix from q))
        ∙ elim (is_listed (map (moved_key from to) key_list) (depth_key_of q)) as (λ b. is_listed (map (moved_key from to) key_list) (depth_key_of q) ≡ b → cond b (get layer (moved_path to from q)) (get layer q) ≡ get layer (moved_path to from q)) [
          | true ↦ λ _. refl
          | false ↦ λ unlisted.
              free q begins
              ∙ sym (none_is (get layer (moved_path to from q)) (λ there.
              true_is_not (sym (listed_moved layer from to q key_list below begins (listed_is (moved_path to from q) ∙ ap (λ b. b && is_some (get layer (moved_path to from q))) (moved_prefix to from q begins) ∙ there)) ∙ unlisted)))
        ] refl

    gone : (b : Bool) (o : Option LayerPrim) → cond (b && is_some o) None o ≡ cond b None o
    gone true None = refl
    gone true (Some p) = refl
    gone false o = refl

    elsewhere : (q : Path) → is_prefix to q ≡ false → cond (is_prefix from q && is_some (get layer q)) None (cond (is_listed (map (moved_key from to) key_list) (depth_key_of q)) (get layer (moved_path to from q)) (get layer q)) ≡ cond (is_prefix from q) None (get layer q)
    elsewhere q away =
        ap (λ b. cond (is_prefix from q && is_some (get layer q)) None (cond b (get layer (moved_path to from q)) (get layer q))) (not_both (is_listed (map (moved_key from to) key_list) (depth_key_of q)) (λ h. true_is_not (sym (moved_listed layer from to q key_list below h).0 ∙ away)))
        ∙ gone (is_prefix from q) (get layer q)

-- a path of the layer is moved too deep where a key of the subtree is
deep_place : (key_list : List DepthKey) (p from to : Path) → is_listed key_list (depth_key_of p) ≡ true → is_moved_too_deep from to p ≡ true → list_any (is_key_too_deep from to) key_list ≡ true
deep_place [] p from to listed deep = listed
deep_place (x ∷ key_list) p from to listed deep =
    elim (eq_by_cmp depth_key_cmp (depth_key_of p) x) as (λ b. eq_by_cmp depth_key_cmp (depth_key_of p) x ≡ b → (b || is_listed key_list (depth_key_of p)) ≡ true → list_any (is_key_too_deep from to) (x ∷ key_list) ≡ true) [
      | true ↦ λ same _. ap (λ b. b || list_any (is_key_too_deep from to) key_list) (ap (is_key_too_deep from to) (sym (key_is (depth_key_of p) x same)) ∙ deep)
      | false ↦ λ _ later. or_later (is_key_too_deep from to x) (list_any (is_key_too_deep from to) key_list) (deep_place key_list p from to later deep)
    ] refl listed
  where
    or_later : (a b : Bool) → b ≡ true → (a || b) ≡ true
    or_later true b h = refl
    or_later false b h = h

pub shallow_keys : (m : BTreeMap DepthKey StoredPrim) (from to : Path) (key_list : List DepthKey) → IsSound m → IsSubtree m from key_list → list_any (is_key_too_deep from to) key_list ≡ false → list_any (is_moved_too_deep from to) (keys (layer_in m)) ≡ false
shallow_keys m from to key_list sound subtree shallow = none (keys (layer_in m)) (λ p listed deep.
    let both = and_true (is_prefix from p) _ deep in
    let there : is_some (get (layer_in m) p) ≡ true = contains_key-keys (layer_in m) p ∙ listed in
    true_is_not (sym (deep_place key_list p from to (subtree.listed p ∙ ap (λ b. b && is_some (tree.get depth_key_cmp m (depth_key_of p))) both.0 ∙ sym (layer_has m sound p) ∙ there) deep) ∙ shallow))
  where
    none : (ks : List Path) → ((p : Path) → list_any (eq_by_cmp path_cmp p) ks ≡ true → is_moved_too_deep from to p ≡ true → ⊥) → list_any (is_moved_too_deep from to) ks ≡ false
    none [] h = refl
    none (k ∷ ks) h =
        ap (λ b. b || list_any (is_moved_too_deep from to) ks) (not_both (is_moved_too_deep from to k) (h k (ap (λ b. b || list_any (eq_by_cmp path_cmp k) ks) (eq_itself k))))
        ∙ none ks (λ p listed. h p (or_later (eq_by_cmp path_cmp p k) (list_any (eq_by_cmp path_cmp p) ks) listed))
      where
        or_later : (a b : Bool) → b ≡ true → (a || b) ≡ true
        or_later true b h = refl
        or_later false b h = h

pub deep_keys : (m : BTreeMap DepthKey StoredPrim) (from to : Path) (key_list : List DepthKey) → IsSound m → IsSubtree m from key_list → list_any (is_key_too_deep from to) key_list ≡ true → list_any (is_moved_too_deep from to) (keys (layer_in m)) ≡ true
deep_keys m from to key_list sound subtree deep = some key_list (all_below m from key_list sound subtree) deep
  where
    deep_key : (ks : List Path) (p : Path) → list_any (eq_by_cmp path_cmp p) ks ≡ true → is_moved_too_deep from to p ≡ true → list_any (is_moved_too_deep from to) ks ≡ true
    deep_key [] p listed here = listed
    deep_key (k ∷ ks) p listed here =
        elim (eq_by_cmp path_cmp p k) as (λ b. eq_by_cmp path_cmp p k ≡ b → (b || list_any (eq_by_cmp path_cmp p) ks) ≡ true → list_any (is_moved_too_deep from to) (k ∷ ks) ≡ true) [
          | true ↦ λ same _. ap (λ b. b || list_any (is_moved_too_deep from to) ks) (ap (is_moved_too_deep from to) (sym (tied p k same)) ∙ here)
          | false ↦ λ _ later. or_later (is_moved_too_deep from to k) (list_any (is_moved_too_deep from to) ks) (deep_key ks p later here)
        ] refl listed
      where
        or_later : (a b : Bool) → b ≡ true → (a || b) ≡ true
        or_later true b h = refl
        or_later false b h = h

    some : (ps : List DepthKey) → AllByRecursion (IsBelow (layer_in m) from) ps → list_any (is_key_too_deep from to) ps ≡ true → list_any (is_moved_too_deep from to) (keys (layer_in m)) ≡ true
    some [] below h = true_is_not (sym h)
    some (p ∷ ps) below h =
        elim (is_key_too_deep from to p) as (λ b. is_key_too_deep from to p ≡ b → (b || list_any (is_key_too_deep from to) ps) ≡ true → list_any (is_moved_too_deep from to) (keys (layer_in m)) ≡ true) [
          | true ↦ λ here _. deep_key (keys (layer_in m)) p.path (sym (contains_key-keys (layer_in m) p.path) ∙ below.0.there) here
          | false ↦ λ _ later. some ps below.1 later
        ] refl h

-- what an answer that is an error, or none, says
pub err_fact : {P : Type 0} (r : Result (Unit {0}) AllocError) → is_err r ≡ true → OnErr r P → P
err_fact (Ok u) is h = true_is_not (sym is)
err_fact (Err e) is h = h

pub ok_fact : {P : Type 0} (r : Result (Unit {0}) AllocError) → is_err r ≡ false → OnOk r P → P
ok_fact (Ok u) is h = h
ok_fact (Err e) is h = true_is_not is

-- a fault that is handed on
pub handed_on : (r : Result (Unit {0}) EditFault) (fault : EditFault) (expected : Result Layer EditFault) → IsErrAnd r (λ f. f ≡ fault) → IsRefusal expected fault → IfErr r (IsRefusal expected)
handed_on (Ok u) fault expected is h = tt
handed_on (Err e) fault expected is h = subst (IsRefusal expected) (sym is) h
