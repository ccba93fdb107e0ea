-- One scene of several, of which the first is the strongest.
use Rattle.std.specs.Prelude.{List, [], ◌∷◌, map, Option, Some, None}
use Rattle.std.specs.Option.{option_map}
use Rattle.std.specs.List.{filter_map, flat_map}
use Rattle.std.specs.declared.cmp.Ordering.{Ordering}
use Rattle.std.specs.FinMap.{FinMap, get, keys, from_entries}
use Rattle.hd_value.specs.Maps.{Map, overlaid_at}
use Rattle.hd_scene.specs.Scenes.{Scene}
use Rattle.hd_scene.specs.declared.prims.Entry.{Entry}
use Rattle.hd_path.specs.Paths.{Path}
use Rattle.hd_path.specs.Names.{Name}

-- the map that has at each of these keys what is given for it
abbrev pub table_of : {K X : Type 0} {R : K → K → Ordering} → List K → (K → Option X) → FinMap R X
table_of ks given = from_entries (filter_map (λ k. option_map (λ x. (k, x)) (given k)) ks)

-- the first kind that is not empty, or else the empty one
abbrev pub first_kind : List Name → Name
first_kind [] = []
first_kind ([] ∷ kinds) = first_kind kinds
first_kind ((letter ∷ kind) ∷ kinds) = letter ∷ kind

-- the values of several containers: at each locator the value of the first one that has a value at a locator that
-- intersects it
unfoldable pub overlay : List Map → Map
overlay containers = table_of (flat_map keys containers) (overlaid_at containers)

-- what several prims are together
abbrev pub merged_prim : List Entry → Entry
merged_prim prims = record { kind = first_kind (map (λ e. e.kind) prims); values = overlay (map (λ e. e.values) prims) }

-- the same, where there may be none
abbrev pub merged_entry : List Entry → Option Entry
merged_entry [] = None
merged_entry (e ∷ es) = Some (merged_prim (e ∷ es))

-- the prims that the scenes have at a path
abbrev pub prims_at : List Scene → Path → List Entry
prims_at scenes path = filter_map (λ scene. get scene path) scenes

-- each path of any of the scenes, with what their prims there are together
unfoldable pub merged_scene : List Scene → Scene
merged_scene scenes = table_of (flat_map keys scenes) (λ path. merged_entry (prims_at scenes path))
