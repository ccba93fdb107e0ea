-- Layers compose in parts.
use Rattle.std.proofs.Common.{◌≡◌, List, ◌++◌, map, ap, sym, ◌∙◌}
use Rattle.std.proofs.lemmas.List.{map-append}
use Rattle.std.proofs.lemmas.List.Elements.{All-map}
use Rattle.hd_value.specs.Schema.{is_authored}
use Rattle.hd_scene.specs.Scenes.{SceneConforms}
use Rattle.hd_retained.specs.Layers.{Layer, scene_of}
use Rattle.hd_merging.specs.Merges.{merged_scene}
use Rattle.hd_merging.proofs.Together.{merged-one, merged-further}
use Rattle.hd_merging.proofs.Apart.{merged-first}
use Rattle.hd_stack.specs.Stacks.{composed_scene}
use Rattle.hd_stack.specs.Laws.{ComposesOne, ComposesWeakerFirst, ComposesStrongerFirst}
use Rattle.hd_stack.proofs.Unnested.{authored_unnested}

pub composed-one : ComposesOne
composed-one layer = merged-one (scene_of layer)

-- the scenes of two lists of layers, one after the other
scenes-append : (stronger weaker : List Layer) → merged_scene (map scene_of stronger ++ map scene_of weaker) ≡ composed_scene (stronger ++ weaker)
scenes-append stronger weaker = ap merged_scene (sym (map-append scene_of stronger weaker))

pub composed-further : ComposesWeakerFirst
composed-further stronger weaker = merged-further (map scene_of stronger) (map scene_of weaker) ∙ scenes-append stronger weaker

pub composed-first : ComposesStrongerFirst
composed-first stronger weaker sound =
    merged-first is_authored (map scene_of stronger) (map scene_of weaker) authored_unnested (All-map (SceneConforms is_authored) scene_of stronger (λ k d l. (sound k d l).conforms))
    ∙ scenes-append stronger weaker
