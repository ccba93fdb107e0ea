-- The table of an instancing: the instancers of each target.
use Rattle.std.specs.Prelude.{◌≡◌, ◌||◌, Bool, false, List, [], unwrap_or, filter}
use Rattle.std.specs.List.{list_any}
use Rattle.std.specs.List.Sorted.{IsStrictlySortedBy}
use Rattle.std.specs.Option.{option_map_or}
use Rattle.std.specs.Ordering.{eq_by_cmp}
use Rattle.std.specs.FinMap.{keys}
use Rattle.std.specs.BTreeMap as tree
use Rattle.std.specs.BTreeMap.{BTreeMap}
use Rattle.std.specs.BTreeSet as set
use Rattle.std.specs.BTreeSet.{BTreeSet}
use Rattle.hd_path.specs.Paths.{Path, path_cmp}
use Rattle.hd_scene.specs.Scenes.{Scene}
use Rattle.hd_scene.specs.declared.prims.Primitive.{Primitive}
use Rattle.hd_instancing.specs.Targets.{has_target, targets_of}

-- the instancers that the table has for a target
abbrev pub listed_instancers : BTreeMap Path (List Path) → Path → List Path
listed_instancers table target = unwrap_or (tree.get path_cmp table target) []

-- the table has for each path the instancers of which it is a target, in path order
pub record Holds (scene : Scene) (table : BTreeMap Path (List Path)) : Type 0 where
  pub at : (target : Path) → listed_instancers table target ≡ filter (λ instancer. has_target scene instancer target) (keys scene)

-- whether a path is one of these
abbrev pub is_among : Path → List Path → Bool
is_among path paths = list_any (eq_by_cmp path_cmp path) paths

-- the two lists in one, in path order where both are
pub record IsUnion (first second all : List Path) : Type 0 where
  pub ascending : IsStrictlySortedBy path_cmp first → IsStrictlySortedBy path_cmp second → IsStrictlySortedBy path_cmp all
  pub members : (path : Path) → is_among path all ≡ (is_among path first || is_among path second)

-- whether sets of instancers by target, from which the table is made, have this pair
abbrev pub has_pair : BTreeMap Path (BTreeSet Path) → (target instancer : Path) → Bool
has_pair sets target instancer = option_map_or (λ instancers. set.contains path_cmp instancers instancer) (tree.get path_cmp sets target) false

-- the targets of what is at a path
abbrev pub primitive_targets : Primitive → List Path
primitive_targets prim = option_map_or (λ values. targets_of (record { kind = prim.kind; values = values })) prim.values []
