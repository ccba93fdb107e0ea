-- How an index keeps a layer: prims by their depth and path, each with its values.
use Rattle.std.specs.Prelude.{◌≡◌, ℕ, Bool, true, false, ◌&&◌, ◌==◌, List, [], ◌∷◌, length, take, map, cond, Option, Some, None, is_some, IsTrue, IsSome}
use Rattle.std.specs.List.{list_all, list_any}
use Rattle.std.specs.List.Sorted.{IsStrictlySortedBy}
use Rattle.std.specs.Ordering.{nat_cmp, ordering_then, eq_by_cmp}
use Rattle.std.specs.declared.cmp.Ordering.{Ordering}
use Rattle.std.specs.FinMap.{get, contains_key, insert, from_entries}
use Rattle.std.specs.BTreeMap as tree
use Rattle.std.specs.BTreeMap.{BTreeMap}
use Rattle.hd_layer.specs.WellFormed.{is_property, are_distinct}
use Rattle.hd_path.specs.Paths.{Path, path_cmp, is_prefix}
use Rattle.hd_scene.specs.Scenes.{IsClosed}
use Rattle.hd_retained.specs.declared.stored.DepthKey.{DepthKey}
use Rattle.hd_retained.specs.declared.stored.StoredPrim.{StoredPrim}
use Rattle.hd_retained.specs.Layers.{LayerPrim, Layer, properties_of, container_of, scene_of}
use Rattle.hd_retained.specs.Edits.{has_parent, moved_path, is_moved_too_deep}

-- by the number of names, and then by the path
abbrev pub depth_key_cmp : DepthKey → DepthKey → Ordering
depth_key_cmp a b = ordering_then (nat_cmp a.depth b.depth) (path_cmp a.path b.path)

abbrev pub depth_key_of : Path → DepthKey
depth_key_of path = record { depth = length path; path = path }

-- the key has the depth of its path
abbrev pub is_placed : DepthKey → Bool
is_placed key = key.depth == length key.path

-- the key has this number of names, and is at or below the path
abbrev pub is_at_depth : ℕ → Path → DepthKey → Bool
is_at_depth depth path key = (key.depth == depth) && is_prefix path key.path

abbrev pub prim_of : StoredPrim → LayerPrim
prim_of stored = record { kind = stored.kind; properties = properties_of stored.properties }

abbrev pub prim_at : DepthKey × StoredPrim → Path × LayerPrim
prim_at e = (e.0.path, prim_of e.1)

-- the layer that is kept
abbrev pub layer_in : BTreeMap DepthKey StoredPrim → Layer
layer_in prims = from_entries (map prim_at prims.entries)

-- the values are those that the properties author, each of which is well formed and is once
pub record IsStored (stored : StoredPrim) : Type 0 where
  pub formed : IsTrue (list_all is_property stored.properties)
  pub distinct : IsTrue (are_distinct (map (λ p. p.name) stored.properties))
  pub values : stored.values ≡ container_of (properties_of stored.properties)

-- each prim is at the depth of its path
pub record IsSound (prims : BTreeMap DepthKey StoredPrim) : Type 0 where
  pub placed : (key : DepthKey) → IsSome (tree.get depth_key_cmp prims key) → key.depth ≡ length key.path
  pub stored : (key : DepthKey) (stored : StoredPrim) → tree.get depth_key_cmp prims key ≡ Some stored → IsStored stored

-- and has its parent
pub record IsIndex (prims : BTreeMap DepthKey StoredPrim) : Type 0 where
  pub sound : IsSound prims
  pub closed : IsClosed (scene_of (layer_in prims))

-- whether a key is one of the list
abbrev pub is_listed : List DepthKey → DepthKey → Bool
is_listed keys q = list_any (eq_by_cmp depth_key_cmp q) keys

-- the keys are those of the prims at and below the path, each once and in order
pub record IsSubtree (prims : BTreeMap DepthKey StoredPrim) (path : Path) (keys : List DepthKey) : Type 0 where
  pub ascending : IsStrictlySortedBy depth_key_cmp keys
  pub placed : list_all is_placed keys ≡ true
  pub listed : (p : Path) → is_listed keys (depth_key_of p) ≡ (is_prefix path p && is_some (tree.get depth_key_cmp prims (depth_key_of p)))

-- nothing is at the listed keys any more, and all else stays
abbrev pub IsWithout : BTreeMap DepthKey StoredPrim → List DepthKey → BTreeMap DepthKey StoredPrim → Type 0
IsWithout old keys new = (q : DepthKey) → tree.get depth_key_cmp new q ≡ cond (is_listed keys q) None (tree.get depth_key_cmp old q)

-- the key of the path with the second prefix in place of the first one
abbrev pub moved_key : (from to : Path) → DepthKey → DepthKey
moved_key from to key = depth_key_of (moved_path from to key.path)

abbrev pub is_key_too_deep : (from to : Path) → DepthKey → Bool
is_key_too_deep from to key = is_moved_too_deep from to key.path

-- the prims at and below the first path may move to the second one
pub record CanMove (layer : Layer) (from to : Path) : Type 0 where
  pub there : contains_key layer from ≡ true
  pub apart : is_prefix from to ≡ false
  pub parent : has_parent layer to ≡ true
  pub free : contains_key layer to ≡ false

-- the layer with the prim, if there is one, at a path
abbrev pub with_prim : Option LayerPrim → Layer → Path → Layer
with_prim None layer path = layer
with_prim (Some p) layer path = insert layer path p

abbrev pub with_copy : Layer → (from to : Path) → Layer
with_copy layer from to = with_prim (get layer from) layer to

-- the layer with copies of the prims at some keys at others, one by one
abbrev pub with_copies : Layer → (keys others : List DepthKey) → Layer
with_copies layer [] others = layer
with_copies layer (key ∷ keys) [] = layer
with_copies layer (key ∷ keys) (other ∷ others) = with_copies (with_copy layer key.path other.path) keys others

-- the layer with the first few of the copies
pub record IsPartlyCopied (old : Layer) (keys others : List DepthKey) (new : Layer) : Type 0 where
  pub count : ℕ
  pub is : new ≡ with_copies old (take count keys) (take count others)
