-- Which instancers place a prim.
use Rattle.std.specs.Prelude.{Bool, false, if◌then◌else◌, List, [], filter, unwrap_or, codes}
use Rattle.std.specs.List.{list_any}
use Rattle.std.specs.Option.{option_map_or}
use Rattle.hd_path.specs.Paths.{Path, is_prefix}
use Rattle.hd_scene.specs.Tells.{is_same_path}
use Rattle.hd_retained.specs.Layers.{Layer}
use Rattle.hd_instancing.specs.Targets.{is_instancer}
use Rattle.hd_attributes.specs.Attributes.{kind_at, all_paths, paths_of}

-- whether a point instancer is at the path
abbrev pub is_instancer_at : List Layer → Path → Bool
is_instancer_at layers path = option_map_or is_instancer (kind_at layers path) false

-- the targets of the instancer at a path: its prototypes; none where no instancer is
abbrev pub targets : List Layer → Path → List Path
targets layers path = if is_instancer_at layers path then unwrap_or (paths_of layers path (codes "prototypes")) [] else []

-- whether the path is the root of a prototype: a target of some instancer
abbrev pub is_prototype_root : List Layer → Path → Bool
is_prototype_root layers path = list_any (λ instancer. list_any (λ target. is_same_path target path) (targets layers instancer)) (all_paths layers)

-- the instancers that have a target at or above the path, in path order
abbrev pub instancers : List Layer → Path → List Path
instancers layers path = filter (λ instancer. list_any (λ target. is_prefix target path) (targets layers instancer)) (all_paths layers)
