-- The scene of sound layers.
use Rattle.std.specs.Prelude.{List}
use Rattle.hd_scene.specs.Scenes.{IsClosed}
use Rattle.hd_retained.specs.Layers.{Layer, scene_of}
use Rattle.hd_merging.specs.inner.MergedScenes.{inputs_closed}
use Rattle.hd_instancing.specs.Instanced.{instanced_scene}
use Rattle.hd_instancing.specs.Scenes.{instanced_closed}
use Rattle.hd_flattening.specs.Scenes.{flattened_closed}
use Rattle.hd_stack.specs.Stacks.{composed_scene, terminal_scene, IsSound, AreSound}

pub composed_closed : (layers : List Layer) → AreSound layers → IsClosed (composed_scene layers)
composed_closed layers sound = inputs_closed scene_of IsSound (λ layer is. is.closed) layers sound

pub terminal_closed : (layers : List Layer) → AreSound layers → IsClosed (terminal_scene layers)
terminal_closed layers sound =
    flattened_closed (instanced_scene (composed_scene layers)) (instanced_closed (composed_scene layers) (composed_closed layers sound))
