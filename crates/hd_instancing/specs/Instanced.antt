-- A scene in which each prim names its instancers.
use Rattle.std.specs.Prelude.{Bool, true, if◌then◌else◌, List, [], ◌∷◌, map}
use Rattle.std.specs.Option.{option_map}
use Rattle.std.specs.FinMap.{from_entries, entries}
use Rattle.hd_path.specs.Paths.{Path}
use Rattle.hd_tokens.specs.Locators.{reset_at, instanced_by_at}
use Rattle.hd_value.specs.declared.value.Value.TheVariants.{Flag, Paths}
use Rattle.hd_value.specs.Maps.{Map, set_at}
use Rattle.hd_scene.specs.Scenes.{Scene, with_each_prim}
use Rattle.hd_scene.specs.declared.prims.Entry.{Entry}
use Rattle.hd_scene.specs.declared.prims.Primitive.{Primitive}
use Rattle.hd_instancing.specs.Targets.{is_root, instanced_by}

-- the values with the mark of a prototype's root, where the prim is one
abbrev pub with_reset : (root : Bool) → Map → Map
with_reset root values = if root then set_at values reset_at (Flag true) else values

-- the values with the instancers of the prim, where there are any
abbrev pub with_instancers : (instancers : List Path) → Map → Map
with_instancers [] values = values
with_instancers (instancer ∷ instancers) values = set_at values instanced_by_at (Paths (instancer ∷ instancers))

abbrev pub instanced_values : (root : Bool) → (instancers : List Path) → Map → Map
instanced_values root instancers values = with_instancers instancers (with_reset root values)

-- a prim keeps its kind, and all its other values
abbrev pub instanced_entry : Scene → Path → Entry → Entry
instanced_entry scene path e = record { kind = e.kind; values = instanced_values (is_root scene path) (instanced_by scene path) e.values }

-- each prim of the scene, instanced
unfoldable pub instanced_scene : Scene → Scene
instanced_scene scene = with_each_prim (instanced_entry scene) scene

-- the same of what is at a path
abbrev pub instanced_primitive : (root : Bool) → (instancers : List Path) → Primitive → Primitive
instanced_primitive root instancers prim = record { kind = prim.kind; values = option_map (instanced_values root instancers) prim.values }
