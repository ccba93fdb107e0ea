-- What follows from the definitions.
use Rattle.std.specs.Prelude.{◌≡◌, ◌↔◌, true, false, [], Some, Contains, Any}
use Rattle.std.specs.List.Sorted.{IsStrictlySortedBy}
use Rattle.std.specs.FinMap.{get}
use Rattle.hd_path.specs.Paths.{Path, path_cmp, is_prefix}
use Rattle.hd_value.specs.Schema.{is_authored, is_instanced}
use Rattle.hd_scene.specs.Scenes.{Scene, IsClosed, SceneConforms}
use Rattle.hd_scene.specs.declared.prims.Entry.{Entry}
use Rattle.hd_instancing.specs.Targets.{is_instancer, targets_at, instances, instanced_by}
use Rattle.hd_instancing.specs.Instanced.{instanced_scene}

-- the instancers of a path ascend, so each is there once
abbrev pub InstancersAscend : Type 0
InstancersAscend = (scene : Scene) (path : Path) → IsStrictlySortedBy path_cmp (instanced_by scene path)

-- and a path is among them exactly where one of its targets is a prefix of the path
abbrev pub InstancersHaveTargets : Type 0
InstancersHaveTargets = (scene : Scene) (path instancer : Path) → Contains (instanced_by scene path) instancer ↔ Any (λ target. is_prefix target path ≡ true) (targets_at scene instancer)

-- an instancer without targets instances nothing
abbrev pub NoTargetsInstanceNothing : Type 0
NoTargetsInstanceNothing = (scene : Scene) (instancer path : Path) → targets_at scene instancer ≡ [] → instances scene instancer path ≡ false

-- where no prim is an instancer the instanced scene is the scene
abbrev pub StaysWithoutInstancers : Type 0
StaysWithoutInstancers = (scene : Scene) → ((path : Path) (prim : Entry) → get scene path ≡ Some prim → is_instancer prim.kind ≡ false) → instanced_scene scene ≡ scene

-- an instanced scene is closed where the scene is, and has the values that instancing gives where the scene has authored ones
abbrev pub InstancedIsClosed : Type 0
InstancedIsClosed = (scene : Scene) → IsClosed scene → IsClosed (instanced_scene scene)

abbrev pub InstancedConforms : Type 0
InstancedConforms = (scene : Scene) → SceneConforms is_authored scene → SceneConforms is_instanced (instanced_scene scene)
