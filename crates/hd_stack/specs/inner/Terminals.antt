-- The filters of a stack, and the layers at their inputs.
use Rattle.std.specs.Prelude.{◌≡◌, false, List, map}
use Rattle.hd_scene.specs.Scenes.{Scene}
use Rattle.hd_scene.specs.Filters.{FilterState}
use Rattle.hd_retained.specs.Edits.{State}
use Rattle.hd_retained.specs.Layers.{Layer, scene_of}
use Rattle.hd_merging.specs.Merged.{Merged}
use Rattle.hd_merging.specs.Merges.{merged_scene}
use Rattle.hd_stack.specs.Stacks.{IsStack}

abbrev pub layers_of : List State → List Layer
layers_of inputs = map (λ (r : State). r.layer) inputs

abbrev pub scenes_of : List State → List Scene
scenes_of inputs = map (λ (r : State). scene_of r.layer) inputs

-- the layers below an instancing
abbrev pub layers_in : FilterState (Merged State) → List Layer
layers_in instancing = layers_of instancing.input.inputs

-- the layers below an instancing are those of a stack, and what it keeps is of their scene, unless it is spent
pub record IsTerminal (instancing : FilterState (Merged State)) : Type 0 where
  pub stack : IsStack (layers_in instancing)
  pub told : instancing.spent ≡ false → merged_scene (scenes_of instancing.input.inputs) ≡ instancing.told
