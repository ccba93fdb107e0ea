-- The prototypes of instancers: their targets, and what is instanced.
use Rattle.std.specs.Prelude.{Bool, if◌then◌else◌, List, [], Option, Some, filter}
use Rattle.std.specs.List.{list_any}
use Rattle.std.specs.Option.{option_map_or}
use Rattle.std.specs.FinMap.{get, keys}
use Rattle.hd_path.specs.Names.{Name, is_same}
use Rattle.hd_path.specs.Paths.{Path, is_prefix}
use Rattle.hd_tokens.specs.Locators.{prototypes_at}
use Rattle.hd_tokens.specs.Kinds.{point_instancer_kind}
use Rattle.hd_value.specs.declared.value.Value.{Value}
use Rattle.hd_value.specs.declared.value.Value.TheVariants.{Paths}
use Rattle.hd_scene.specs.Scenes.{Scene}
use Rattle.hd_scene.specs.Tells.{is_same_path}
use Rattle.hd_scene.specs.declared.prims.Entry.{Entry}

abbrev pub is_instancer : (kind : Name) → Bool
is_instancer kind = is_same kind point_instancer_kind

-- the paths of a value, and none where there is another value, or nothing
abbrev pub paths_of : Option Value → List Path
paths_of (Some (Paths paths)) = paths
paths_of _ = []

-- the targets of a prim: an instancer's prototypes
abbrev pub targets_of : Entry → List Path
targets_of prim = if is_instancer prim.kind then paths_of (get prim.values prototypes_at) else []

-- the targets of the prim at a path, and none where no prim is
abbrev pub targets_at : Scene → Path → List Path
targets_at scene path = option_map_or targets_of (get scene path) []

-- whether the path is a target of the instancer
abbrev pub has_target : Scene → (instancer path : Path) → Bool
has_target scene instancer path = list_any (λ target. is_same_path target path) (targets_at scene instancer)

-- whether the path is a prototype's root: a target of some instancer
abbrev pub is_root : Scene → Path → Bool
is_root scene path = list_any (λ instancer. has_target scene instancer path) (keys scene)

-- whether the instancer instances the prim at a path: one of its targets is a prefix of the path
abbrev pub instances : Scene → (instancer path : Path) → Bool
instances scene instancer path = list_any (λ target. is_prefix target path) (targets_at scene instancer)

-- the instancers of the prim at a path, in path order
abbrev pub instanced_by : Scene → Path → List Path
instanced_by scene path = filter (λ instancer. instances scene instancer path) (keys scene)
