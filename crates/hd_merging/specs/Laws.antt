-- What follows from the definitions.
use Rattle.std.specs.Prelude.{◌≡◌, Bool, List, [], ◌∷◌, ◌++◌, map, All, Option, None, is_some, IsTrue}
use Rattle.std.specs.List.{list_any}
use Rattle.std.specs.Option.{option_or}
use Rattle.std.specs.FinMap.{get}
use Rattle.hd_value.specs.declared.value.Value.{Value}
use Rattle.hd_path.specs.Paths.{Path, is_prefix}
use Rattle.hd_value.specs.Maps.{overlaid_at}
use Rattle.hd_scene.specs.Scenes.{Scene, value_at, IsClosed, SceneConforms}
use Rattle.hd_merging.specs.Merges.{merged_scene, merged_entry, prims_at}
use Rattle.hd_tokens.specs.Locators.{Locator}

-- what the merged scene has at a path is what the prims of the scenes at that path are together
abbrev pub MergesPathByPath : Type 0
MergesPathByPath = (scenes : List Scene) (path : Path) → get (merged_scene scenes) path ≡ merged_entry (prims_at scenes path)

-- so a path is in the merged scene exactly where it is in one of the scenes
abbrev pub MergesAllPaths : Type 0
MergesAllPaths = (scenes : List Scene) (path : Path) → is_some (get (merged_scene scenes) path) ≡ list_any (λ scene. is_some (get scene path)) scenes

-- and at a locator it has the value of the first of these prims that has one at a locator that intersects it
abbrev pub MergesValues : Type 0
MergesValues = (scenes : List Scene) (path : Path) (at : Locator) → value_at (merged_scene scenes) path at ≡ overlaid_at (map (λ e. e.values) (prims_at scenes path)) at

-- one scene alone is merged into itself
abbrev pub MergesOne : Type 0
MergesOne = (scene : Scene) → merged_scene (scene ∷ []) ≡ scene

-- the weaker scenes may be merged first
abbrev pub MergesWeakerFirst : Type 0
MergesWeakerFirst = (stronger weaker : List Scene) → merged_scene (stronger ++ merged_scene weaker ∷ []) ≡ merged_scene (stronger ++ weaker)

-- no value that conforms may be above another one
abbrev pub IsUnnested : (Locator → Value → Bool) → Type 0
IsUnnested may_be = (a b : Locator) (v w : Value) → IsTrue (may_be a v) → IsTrue (may_be b w) → IsTrue (is_prefix a b) → a ≡ b

-- the value that the strongest of the scenes with a value at a locator of a path has there
abbrev pub strongest_value : List Scene → (path : Path) (at : Locator) → Option Value
strongest_value [] path at = None
strongest_value (s ∷ ss) path at = option_or (value_at s path at) (strongest_value ss path at)

-- where the values conform to such a schema, each comes from the strongest scene that has one at its locator
abbrev pub MergesStrongest : Type 0
MergesStrongest = (may_be : Locator → Value → Bool) (scenes : List Scene) → IsUnnested may_be → All (SceneConforms may_be) scenes → (path : Path) (at : Locator) → value_at (merged_scene scenes) path at ≡ strongest_value scenes path at

-- the stronger ones may be merged first where their values conform to such a schema. Else a value that is hidden in the merged
-- stronger scenes no longer hides those of weaker scenes that it intersects
abbrev pub MergesStrongerFirst : Type 0
MergesStrongerFirst = (may_be : Locator → Value → Bool) (stronger weaker : List Scene) → IsUnnested may_be → All (SceneConforms may_be) stronger → merged_scene (merged_scene stronger ∷ weaker) ≡ merged_scene (stronger ++ weaker)

-- closed scenes are merged into a closed one
abbrev pub MergesClosed : Type 0
MergesClosed = (scenes : List Scene) → All IsClosed scenes → IsClosed (merged_scene scenes)

-- where each scene conforms, the merged one does
abbrev pub MergedConforms : Type 0
MergedConforms = (may_be : Locator → Value → Bool) (scenes : List Scene) → All (SceneConforms may_be) scenes → SceneConforms may_be (merged_scene scenes)
