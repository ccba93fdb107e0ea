-- What follows from the definitions.
use Rattle.std.specs.Prelude.{◌≡◌, ◌≤◌, ◌*◌, List, [], ◌∷◌, ◌++◌, length, map}
use Rattle.std.specs.FinMap.{len}
use Rattle.hd_layer.specs.declared.limits.Which.TheVariants.{Prims}
use Rattle.hd_layer.specs.Limits.{limit_of}
use Rattle.hd_value.specs.Schema.{is_authored, is_flattened}
use Rattle.hd_scene.specs.Scenes.{value_at, SceneConforms}
use Rattle.hd_retained.specs.Layers.{Layer, scene_of}
use Rattle.hd_merging.specs.Merges.{merged_scene}
use Rattle.hd_merging.specs.Laws.{IsUnnested, strongest_value}
use Rattle.hd_stack.specs.Stacks.{composed_scene, terminal_scene, AreSound}
use Rattle.hd_path.specs.Paths.{Path}
use Rattle.hd_tokens.specs.Locators.{Locator}

-- one layer alone gives its own scene
abbrev pub ComposesOne : Type 0
ComposesOne = (layer : Layer) → composed_scene (layer ∷ []) ≡ scene_of layer

-- the weaker layers may be composed first
abbrev pub ComposesWeakerFirst : Type 0
ComposesWeakerFirst = (stronger weaker : List Layer) → merged_scene (map scene_of stronger ++ composed_scene weaker ∷ []) ≡ composed_scene (stronger ++ weaker)

-- and so may the stronger ones, where they are sound
abbrev pub ComposesStrongerFirst : Type 0
ComposesStrongerFirst = (stronger weaker : List Layer) → AreSound stronger → merged_scene (composed_scene stronger ∷ map scene_of weaker) ≡ composed_scene (stronger ++ weaker)

-- for no value that a text can author may be above another one
abbrev pub AuthoredIsUnnested : Type 0
AuthoredIsUnnested = IsUnnested is_authored

-- at a locator, a prim has the value of the first layer that authors one there
abbrev pub ComposesValues : Type 0
ComposesValues = (layers : List Layer) (path : Path) (at : Locator) → AreSound layers → value_at (composed_scene layers) path at ≡ strongest_value (map scene_of layers) path at

-- each value of the scene of sound layers is one that flattening gives, where it is
abbrev pub TerminalConforms : Type 0
TerminalConforms = (layers : List Layer) → AreSound layers → SceneConforms is_flattened (terminal_scene layers)

-- the scene has at most as many prims as its layers may have
abbrev pub ScenesAreBounded : Type 0
ScenesAreBounded = (layers : List Layer) → AreSound layers → len (terminal_scene layers) ≤ limit_of Prims * length layers
