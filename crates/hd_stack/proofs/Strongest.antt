-- A value is that of the first layer that has one at its locator.
use Rattle.std.proofs.Common.{map}
use Rattle.std.proofs.lemmas.List.Elements.{All-map}
use Rattle.hd_value.specs.Schema.{is_authored}
use Rattle.hd_scene.specs.Scenes.{SceneConforms}
use Rattle.hd_retained.specs.Layers.{scene_of}
use Rattle.hd_merging.proofs.Apart.{value_at-strongest}
use Rattle.hd_stack.specs.Laws.{ComposesValues}
use Rattle.hd_stack.proofs.Unnested.{authored_unnested}

pub strongest : ComposesValues
strongest layers path at sound =
    value_at-strongest is_authored (map scene_of layers) authored_unnested (All-map (SceneConforms is_authored) scene_of layers (λ k d l. (sound k d l).conforms)) path at
