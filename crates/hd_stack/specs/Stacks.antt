-- Layers that make one scene together, of which the first is the strongest.
use Rattle.std.specs.Prelude.{ℕ, ◌≤◌, List, length, map, All, Result, Ok, Err, slice_index_or, slice_set, refl}
use Rattle.std.specs.Coded.{Coded, code_by, coded×, coded_ℕ, coded_list}
use Rattle.std.specs.FinMap.{empty, len}
use Rattle.hd_layer.specs.declared.edit.Edit.{Edit}
use Rattle.hd_layer.specs.declared.limits.Which.TheVariants.{Layers, Prims}
use Rattle.hd_layer.specs.Limits.{limit_of}
use Rattle.hd_value.specs.Schema.{is_authored}
use Rattle.hd_scene.specs.Scenes.{Scene, IsClosed, SceneConforms}
use Rattle.hd_retained.specs.declared.fault.EditFault.{EditFault}
use Rattle.hd_retained.specs.Layers.{Layer, layer_code, scene_of, AreUsed}
use Rattle.hd_retained.specs.Edits.{edit_layer}
use Rattle.hd_merging.specs.Merges.{merged_scene}
use Rattle.hd_instancing.specs.Instanced.{instanced_scene}
use Rattle.hd_flattening.specs.Flattened.{flattened_scene}

-- the layers, and how often the stack was asked for a prim
pub record Stacked : Type 0 where
  pub layers : List Layer
  pub pulls : ℕ

abbrev pub stacked_code : Coded Stacked
stacked_code = code_by (List Layer × ℕ) (coded× (coded_list layer_code) coded_ℕ) (λ s. (s.layers, s.pulls)) (λ p. record { layers = p.0; pulls = p.1 }) (λ _. refl)

-- the scene that the layers author together
abbrev pub composed_scene : List Layer → Scene
composed_scene layers = merged_scene (map scene_of layers)

-- the same, where each prim has its instancers, and what it takes from those above it
abbrev pub terminal_scene : List Layer → Scene
terminal_scene layers = flattened_scene (instanced_scene (composed_scene layers))

-- the layer of this number
abbrev pub layer_at : List Layer → ℕ → Layer
layer_at layers number = slice_index_or layers number empty

-- the layers with another one in place of the one of this number
abbrev pub with_layer : List Layer → ℕ → Result Layer EditFault → Result (List Layer) EditFault
with_layer layers number (Ok layer) = Ok (slice_set layers number layer)
with_layer layers number (Err fault) = Err fault

-- the layers after an edit of the one of this number, or the refusal, which that layer alone decides
abbrev pub edited_at : List Layer → ℕ → Edit → Result (List Layer) EditFault
edited_at layers number edit = with_layer layers number (edit_layer (layer_at layers number) edit)

-- the paths of a layer are paths, each prim has its parent, used properties alone, and values that a text can author; and there
-- are no more prims than a layer may have
pub record IsSound (layer : Layer) : Type 0 where
  pub closed : IsClosed (scene_of layer)
  pub used : AreUsed layer
  pub conforms : SceneConforms is_authored (scene_of layer)
  pub few : len layer ≤ limit_of Prims

abbrev pub AreSound : List Layer → Type 0
AreSound layers = All IsSound layers

-- from one layer to as many as a command may have, each of which is sound
pub record IsStack (layers : List Layer) : Type 0 where
  pub some : 1 ≤ length layers
  pub few : length layers ≤ limit_of Layers
  pub sound : AreSound layers
