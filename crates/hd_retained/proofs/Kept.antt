-- The layer that is kept by keys.
use Rattle.std.proofs.Common.{◌≡◌, ℕ, Bool, true, false, cond, ◌||◌, List, [], ◌∷◌, length, map, Option, Some, None, is_some, IfSome, option_copied, Bor, ◌+◌, refl, sym, ◌∙◌, ap, subst, arith}
use Rattle.std.proofs.lemmas.Cmp.{eq_by_cmp_equiv}
use Rattle.std.proofs.lemmas.List.Elements.{recursion_from_All}
use Rattle.std.proofs.lemmas.Map.Views.{All-keys_from_lookup}
use Rattle.std.specs.List.{AllByRecursion, list_any}
use Rattle.std.specs.List.Sorted.{IsStrictlySortedBy}
use Rattle.std.specs.declared.cmp.Ordering.{Ordering}
use Rattle.std.specs.declared.cmp.Ordering.TheVariants.{Less}
use Rattle.std.specs.FinMap.Entries.{is_some-find}
use Rattle.std.specs.Map.{lookup, keys_of}
use Rattle.std.specs.Option.{option_map}
use Rattle.std.specs.Ordering.{eq_by_cmp, is_eq}
use Rattle.std.specs.FinMap.{get, find, insert, from_entries, entries, get-insert, get-from_entries, get-entries, same_map, contains_key, len, len-empty, len-insert}
use Rattle.std.specs.BTreeMap as tree
use Rattle.std.specs.BTreeMap.{BTreeMap}
use Rattle.hd_path.specs.Paths.{Path, path_cmp}
use Rattle.hd_scene.proofs.Children.{path_cmp_total, path_cmp_exact}
use Rattle.hd_retained.specs.declared.stored.DepthKey.{DepthKey}
use Rattle.hd_retained.specs.declared.stored.StoredPrim.{StoredPrim}
use Rattle.hd_retained.specs.Layers.{LayerPrim, Layer, entry_of, entry_at_path, scene_of}
use Rattle.hd_retained.specs.inner.Indexed.{depth_key_cmp, depth_key_of, prim_of, prim_at, is_listed, layer_in, IsStored, IsSound}
use Rattle.hd_retained.proofs.DepthKeys.{depth_key_cmp_total, tied_key, key_is, listed_paths}

abbrev pub IsPlaced : DepthKey → Type 0
IsPlaced p = p.depth ≡ length p.path

find_kept : (es : List (DepthKey × StoredPrim)) (q : Path) → AllByRecursion IsPlaced (keys_of es) → find path_cmp q (map prim_at es) ≡ option_map prim_of (lookup (λ k. is_eq (depth_key_cmp (depth_key_of q) k)) es)
find_kept [] q placed = refl
find_kept (e ∷ es) q placed =
    ap (λ b. cond b (Some (prim_of e.1)) (find path_cmp q (map prim_at es))) (sym (tied_key q e.0 placed.0))
    ∙ ap (cond (eq_by_cmp depth_key_cmp (depth_key_of q) e.0) (Some (prim_of e.1))) (find_kept es q placed.1)
    ∙ choice (eq_by_cmp depth_key_cmp (depth_key_of q) e.0)
  where
    choice : (b : Bool) → cond b (Some (prim_of e.1)) (option_map prim_of (lookup (λ k. is_eq (depth_key_cmp (depth_key_of q) k)) es)) ≡ option_map prim_of (cond b (Some e.1) (lookup (λ k. is_eq (depth_key_cmp (depth_key_of q) k)) es))
    choice true = refl
    choice false = refl

-- each key is the key of its path
pub keys_placed : (m : BTreeMap DepthKey StoredPrim) → IsSound m → AllByRecursion IsPlaced (tree.keys m)
keys_placed m sound = recursion_from_All IsPlaced (tree.keys m) (All-keys_from_lookup (eq_by_cmp_equiv depth_key_cmp_total) IsPlaced m.entries sound.placed)

-- what the layer has at a path is what the tree has at its key
pub get-kept : (m : BTreeMap DepthKey StoredPrim) → IsSound m → (q : Path) → get (layer_in m) q ≡ option_map prim_of (tree.get depth_key_cmp m (depth_key_of q))
get-kept m sound q = get-from_entries path_cmp_total (map prim_at m.entries) q ∙ find_kept m.entries q (keys_placed m sound)

-- layers that answer alike are equal
pub same_layer : (a b : Layer) → ((q : Path) → get a q ≡ get b q) → a ≡ b
same_layer a b h = same_map path_cmp_total path_cmp_exact a b h

find_entry : (es : List (List (List ℕ) × LayerPrim)) (q : Path) → find path_cmp q (map entry_at_path es) ≡ option_map entry_of (find path_cmp q es)
find_entry [] q = refl
find_entry (e ∷ es) q =
    ap (cond (eq_by_cmp path_cmp q e.0) (Some (entry_of e.1))) (find_entry es q) ∙ choice (eq_by_cmp path_cmp q e.0)
  where
    choice : (b : Bool) → cond b (Some (entry_of e.1)) (option_map entry_of (find path_cmp q es)) ≡ option_map entry_of (cond b (Some e.1) (find path_cmp q es))
    choice true = refl
    choice false = refl

-- what the scene has at a path
pub get-scene : (layer : Layer) (q : Path) → get (scene_of layer) q ≡ option_map entry_of (get layer q)
get-scene layer q = get-from_entries path_cmp_total (map entry_at_path (entries layer)) q ∙ find_entry (entries layer) q ∙ ap (option_map entry_of) (sym (get-entries layer q))

is_some-map : {X Y : Type 0} (f : X → Y) (o : Option X) → is_some (option_map f o) ≡ is_some o
is_some-map f None = refl
is_some-map f (Some x) = refl

pub scene_has : (layer : Layer) (q : Path) → is_some (get (scene_of layer) q) ≡ is_some (get layer q)
scene_has layer q = ap is_some (get-scene layer q) ∙ is_some-map entry_of (get layer q)

pub layer_has : (m : BTreeMap DepthKey StoredPrim) → IsSound m → (q : Path) → is_some (get (layer_in m) q) ≡ is_some (tree.get depth_key_cmp m (depth_key_of q))
layer_has m sound q = ap is_some (get-kept m sound q) ∙ is_some-map prim_of (tree.get depth_key_cmp m (depth_key_of q))

-- the tree has the new prim at the key, and at others what it had
abbrev pub Puts : BTreeMap DepthKey StoredPrim → BTreeMap DepthKey StoredPrim → DepthKey → StoredPrim → Type 0
Puts m n at stored = (q : DepthKey) → tree.get depth_key_cmp n q ≡ cond (is_eq (depth_key_cmp at q)) (Some stored) (tree.get depth_key_cmp m q)

some_same : {X : Type 0} (x y : X) → Some x ≡ Some y → x ≡ y
some_same x y e = cc

pub put_sound : (m n : BTreeMap DepthKey StoredPrim) (path : Path) (stored : StoredPrim) → IsSound m → IsStored stored → Puts m n (depth_key_of path) stored → IsSound n
put_sound m n path stored sound is_held puts = record {
  placed = λ q there.
      elim (is_eq (depth_key_cmp (depth_key_of path) q)) as (λ b. is_eq (depth_key_cmp (depth_key_of path) q) ≡ b → is_some (cond b (Some stored) (tree.get depth_key_cmp m q)) ≡ true → IsPlaced q) [
        | true ↦ λ same _. subst IsPlaced (key_is (depth_key_of path) q same) refl
        | false ↦ λ _ old. sound.placed q old
      ] refl (ap is_some (sym (puts q)) ∙ there);
  stored = λ q h is.
      elim (is_eq (depth_key_cmp (depth_key_of path) q)) as (λ b. cond b (Some stored) (tree.get depth_key_cmp m q) ≡ Some h → IsStored h) [
        | true ↦ λ new. subst IsStored (some_same stored h new) is_held
        | false ↦ λ old. sound.stored q h old
      ] (sym (puts q) ∙ is);
}

pub put_layer : (m n : BTreeMap DepthKey StoredPrim) (path : Path) (stored : StoredPrim) → IsSound m → IsSound n → Puts m n (depth_key_of path) stored → layer_in n ≡ insert (layer_in m) path (prim_of stored)
put_layer m n path stored before after puts = same_layer (layer_in n) (insert (layer_in m) path (prim_of stored)) (λ q.
    get-kept n after q
    ∙ ap (option_map prim_of) (puts (depth_key_of q))
    ∙ choice q (is_eq (depth_key_cmp (depth_key_of path) (depth_key_of q)))
    ∙ ap (λ b. cond b (Some (prim_of stored)) (option_map prim_of (tree.get depth_key_cmp m (depth_key_of q)))) (tied_key path (depth_key_of q) refl ∙ (eq_by_cmp_equiv path_cmp_total).symm path q)
    ∙ ap (cond (eq_by_cmp path_cmp q path) (Some (prim_of stored))) (sym (get-kept m before q))
    ∙ sym (get-insert path_cmp_total (layer_in m) path (prim_of stored) q))
  where
    choice : (q : Path) (b : Bool) → option_map prim_of (cond b (Some stored) (tree.get depth_key_cmp m (depth_key_of q))) ≡ cond b (Some (prim_of stored)) (option_map prim_of (tree.get depth_key_cmp m (depth_key_of q)))
    choice q true = refl
    choice q false = refl

-- trees with the same entries keep the same
pub unchanged_sound : (m n : BTreeMap DepthKey StoredPrim) → n.entries ≡ m.entries → IsSound m → IsSound n
unchanged_sound m n same sound = record {
  placed = λ q there. sound.placed q (ap (λ es. is_some (lookup (λ k. is_eq (depth_key_cmp q k)) es)) (sym same) ∙ there);
  stored = λ q h is. sound.stored q h (ap (lookup (λ k. is_eq (depth_key_cmp q k))) (sym same) ∙ is);
}

pub prim_there : (layer : Layer) (path : Path) (found : Option (Bor StoredPrim)) (h : Bor StoredPrim) → option_map prim_of (option_copied found) ≡ get layer path → found ≡ Some h → get layer path ≡ Some (prim_of h.now)
prim_there layer path found h is some = sym is ∙ ap (λ (o : Option (Bor StoredPrim)). option_map prim_of (option_copied o)) some

pub stored_there : (found : Option (Bor StoredPrim)) (h : Bor StoredPrim) → IfSome found (λ x. IsStored x.now) → found ≡ Some h → IsStored h.now
stored_there found h all some = subst (λ (o : Option (Bor StoredPrim)). IfSome o (λ x. IsStored x.now)) some all

-- whether a prim is there, by what was found
pub there_found : (layer : Layer) (path : Path) (found : Option (Bor StoredPrim)) → option_map prim_of (option_copied found) ≡ get layer path → is_some (get layer path) ≡ is_some found
there_found layer path found is = ap is_some (sym is) ∙ cases found
  where
    cases : (o : Option (Bor StoredPrim)) → is_some (option_map prim_of (option_copied o)) ≡ is_some o
    cases None = refl
    cases (Some h) = refl

-- a key before others is none of them
not_listed : (k : DepthKey) (ks : List DepthKey) → AllByRecursion (λ y. depth_key_cmp k y ≡ Less) ks → is_listed ks k ≡ false
not_listed k [] h = refl
not_listed k (y ∷ ks) h = ap (λ (r : Ordering). is_eq r || is_listed ks k) h.0 ∙ not_listed k ks h.1

kept_keys : (es : List (DepthKey × StoredPrim)) → keys_of (map prim_at es) ≡ map (λ (p : DepthKey). p.path) (keys_of es)
kept_keys [] = refl
kept_keys (e ∷ es) = ap (λ (ps : List Path). e.0.path ∷ ps) (kept_keys es)

len_entries : (es : List (DepthKey × StoredPrim)) → AllByRecursion IsPlaced (keys_of es) → IsStrictlySortedBy depth_key_cmp (keys_of es) → len (from_entries {R = path_cmp} (map prim_at es)) ≡ length es
unfolding IsStrictlySortedBy
len_entries [] placed sorted = len-empty path_cmp LayerPrim
len_entries (e ∷ es) placed sorted =
    let new : contains_key (from_entries {R = path_cmp} (map prim_at es)) e.0.path ≡ false =
    ap is_some (get-from_entries path_cmp_total (map prim_at es) e.0.path)
    ∙ is_some-find path_cmp e.0.path (map prim_at es)
    ∙ ap (list_any (eq_by_cmp path_cmp e.0.path)) (kept_keys es)
    ∙ listed_paths e.0.path (keys_of es) placed.1
    ∙ ap (λ (n : ℕ). is_listed (keys_of es) (record { depth = n; path = e.0.path })) (sym placed.0)
    ∙ not_listed e.0 (keys_of es) sorted.0 in
    len-insert path_cmp_total (from_entries (map prim_at es)) e.0.path (prim_of e.1)
    ∙ ap (λ b. cond b (len (from_entries {R = path_cmp} (map prim_at es))) (len (from_entries {R = path_cmp} (map prim_at es)) + 1)) new
    ∙ one_more (len (from_entries {R = path_cmp} (map prim_at es))) (len_entries es placed.1 sorted.1)
  where
    one_more : (n : ℕ) → n ≡ length es → n + 1 ≡ length (e ∷ es)
    one_more n h = omega arith

-- the layer has as many prims as the tree has entries
pub len-kept : (m : BTreeMap DepthKey StoredPrim) → IsSound m → tree.IsOrdered depth_key_cmp m → len (layer_in m) ≡ length m.entries
len-kept m sound ordered = len_entries m.entries (keys_placed m sound) ordered
