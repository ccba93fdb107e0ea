-- The inputs of a terminal, and their layers.
use Rattle.std.proofs.Common.{◌≡◌, ℕ, false, List, [], ◌∷◌, ◌++◌, append_assoc, map, length, Some, zero, suc, ◌≤◌, refl, sym, ◌∙◌, ap, subst, arith}
use Rattle.std.proofs.lemmas.Simd.{map-map}
use Rattle.std.proofs.lemmas.List.{append-nil, length-map, length-set, map-set, map_push}
use Rattle.std.proofs.lemmas.List.Elements.{All-map, All-push, All-set}
use Rattle.std.proofs.lemmas.Option.{slice_get-map, get_or_from_slice_get}
use Rattle.std.specs.Prelude.{All, slice_get, slice_set}
use Rattle.std.specs.FinMap.{empty}
use Rattle.std.specs.Option.{option_map}
use Rattle.hd_layer.specs.declared.spec.LayerSpec.{LayerSpec}
use Rattle.hd_value.specs.Schema.{is_authored, is_instanced}
use Rattle.hd_scene.specs.Scenes.{Scene, IsClosed, SceneConforms}
use Rattle.hd_retained.specs.Edits.{State}
use Rattle.hd_retained.specs.Layers.{Layer, layer_of, scene_of}
use Rattle.hd_merging.specs.Merges.{merged_scene}
use Rattle.hd_merging.proofs.Conforming.{merged_conforms}
use Rattle.hd_layer.specs.declared.limits.Which.TheVariants.{Layers}
use Rattle.hd_layer.specs.Limits.{limit_of}
use Rattle.hd_scene.specs.Filters.{FilterState}
use Rattle.hd_merging.specs.Merged.{Merged}
use Rattle.hd_instancing.specs.Instanced.{instanced_scene}
use Rattle.hd_instancing.proofs.Marked.{conforms}
use Rattle.hd_stack.specs.Stacks.{composed_scene, layer_at, IsSound, IsStack, AreSound}
use Rattle.hd_stack.specs.inner.Terminals.{layers_of, scenes_of, IsTerminal}

pub fused : (inputs : List State) → map scene_of (layers_of inputs) ≡ scenes_of inputs
fused inputs = map-map scene_of (λ (r : State). r.layer) inputs

pub inputs_closed : (inputs : List State) → AreSound (layers_of inputs) → All (λ (r : State). IsClosed (scene_of r.layer)) inputs
inputs_closed [] all k d l = absurd (omega (arith, l))
inputs_closed (r ∷ inputs) all zero d l = (all 0 r.layer (omega arith)).closed
inputs_closed (r ∷ inputs) all (suc k) d l = inputs_closed inputs (λ j e m. all (suc j) e (omega (arith, m))) k d (omega (arith, l))

layers_conform : (layers : List Layer) → AreSound layers → All (SceneConforms is_authored) (map scene_of layers)
layers_conform layers all = All-map (SceneConforms is_authored) scene_of layers (λ k d l. (all k d l).conforms)

pub composed_conforms : (layers : List Layer) → AreSound layers → SceneConforms is_authored (composed_scene layers)
composed_conforms layers all = merged_conforms is_authored (map scene_of layers) (layers_conform layers all)

-- the inputs of a merging of sound layers give the scene that the layers compose, which has authored values
pub inputs_conform : (inputs : List State) → AreSound (layers_of inputs) → SceneConforms is_authored (merged_scene (scenes_of inputs))
inputs_conform inputs all = subst (λ (ss : List Scene). SceneConforms is_authored (merged_scene ss)) (fused inputs) (composed_conforms (layers_of inputs) all)

-- what the merging, the instancing and the flattening of a stack need to be asked
pub terminal_in_step : (instancing : FilterState (Merged State)) → IsTerminal instancing
    → ((All (λ (r : State). IsClosed (scene_of r.layer)) instancing.input.inputs × SceneConforms is_authored (merged_scene (scenes_of instancing.input.inputs)) × (instancing.spent ≡ false → merged_scene (scenes_of instancing.input.inputs) ≡ instancing.told))
    × SceneConforms is_instanced (instanced_scene (merged_scene (scenes_of instancing.input.inputs))))
terminal_in_step instancing is =
    let inputs : List State = instancing.input.inputs in
    let conform = inputs_conform inputs is.stack.sound in
    ((inputs_closed inputs is.stack.sound, conform, is.told), conforms (merged_scene (scenes_of inputs)) conform)

-- the layer of the input of a number
pub input_layer : (inputs : List State) (k : ℕ) (r : State) → slice_get inputs k ≡ Some r → layer_at (layers_of inputs) k ≡ r.layer
input_layer inputs k r is = get_or_from_slice_get (layers_of inputs) k r.layer empty (slice_get-map (λ (s : State). s.layer) inputs k ∙ ap (option_map (λ (s : State). s.layer)) is)

pub layers_set : (inputs : List State) (k : ℕ) (r : State) → layers_of (slice_set inputs k r) ≡ slice_set (layers_of inputs) k r.layer
layers_set inputs k r = map-set (λ (s : State). s.layer) inputs k r

pub sound_set : (inputs : List State) (k : ℕ) (r : State) → IsSound r.layer → AreSound (layers_of inputs) → AreSound (layers_of (slice_set inputs k r))
sound_set inputs k r is all = subst AreSound (sym (layers_set inputs k r)) (All-set IsSound (layers_of inputs) k r.layer is all)

-- as many layers as before, with another one among them
as_many : (inputs : List State) (k : ℕ) (r : State) → length (layers_of (slice_set inputs k r)) ≡ length (layers_of inputs)
as_many inputs k r = ap (λ (layers : List Layer). length layers) (layers_set inputs k r) ∙ length-set (layers_of inputs) k r.layer

pub stack_set : (inputs : List State) (k : ℕ) (r : State) → IsSound r.layer → IsStack (layers_of inputs) → IsStack (layers_of (slice_set inputs k r))
stack_set inputs k r is all = record {
  some = omega (arith, as_many inputs k r, all.some);
  few = subst (λ n. n ≤ limit_of Layers) (sym (as_many inputs k r)) all.few;
  sound = sound_set inputs k r is all.sound;
}

-- the layers of as many texts as a stack may have
pub stack_of : (inputs : List State) (specs : List LayerSpec) → layers_of inputs ≡ map layer_of specs → 1 ≤ length specs → length specs ≤ 8 → AreSound (layers_of inputs) → IsStack (layers_of inputs)
stack_of inputs specs are some few sound =
    let many : length (layers_of inputs) ≡ length specs = ap (λ (layers : List Layer). length layers) are ∙ length-map specs layer_of in
    record {
      some = omega (arith, many, some);
      few = subst (λ n. n ≤ limit_of Layers) (sym many) few;
      sound = sound;
    }

-- one more layer that was read, as an input
pub layers_more : (inputs : List State) (r : State) (read : LayerSpec) (left rest : List LayerSpec) (layers : List Layer) → left ≡ read ∷ rest → r.layer ≡ layer_of read
    → layers ≡ layers_of inputs ++ map layer_of left → layers ≡ layers_of (inputs ++ r ∷ []) ++ map layer_of rest
layers_more inputs r read left rest layers next own before =
    before
    ∙ ap (λ (specs : List LayerSpec). layers_of inputs ++ map layer_of specs) next
    ∙ ap (λ (layer : Layer). layers_of inputs ++ layer ∷ map layer_of rest) (sym own)
    ∙ sym (append_assoc (layers_of inputs) (r.layer ∷ []) (map layer_of rest))
    ∙ ap (λ (own_layers : List Layer). own_layers ++ map layer_of rest) (sym (map_push (λ (s : State). s.layer) inputs r))

pub sound_more : (inputs : List State) (r : State) → IsSound r.layer → AreSound (layers_of inputs) → AreSound (layers_of (inputs ++ r ∷ []))
sound_more inputs r is all = subst AreSound (sym (map_push (λ (s : State). s.layer) inputs r)) (All-push IsSound (layers_of inputs) r.layer all is)

pub first_formed : {X : Type 0} (P : X → Type 0) (left rest : List X) (x : X) → left ≡ x ∷ rest → All P left → P x × All P rest
first_formed P left rest x next all =
    let own = subst (All P) next all in
    (own 0 x (omega arith), λ k d l. own (suc k) d (omega (arith, l)))

pub none_left : {X : Type 0} (left : List X) → length left ≡ 0 → left ≡ []
none_left [] h = refl
none_left (x ∷ left) h = absurd (omega (arith, h))

pub layers_all : (inputs : List State) (left : List LayerSpec) (layers : List Layer) → length left ≡ 0 → layers ≡ layers_of inputs ++ map layer_of left → layers_of inputs ≡ layers
layers_all inputs left layers none before =
    sym (before ∙ ap (λ (specs : List LayerSpec). layers_of inputs ++ map layer_of specs) (none_left left none) ∙ append-nil (layers_of inputs))

-- what is asked is what the layers give
pub same_scene : (inputs : List State) → merged_scene (scenes_of inputs) ≡ composed_scene (layers_of inputs)
same_scene inputs = ap merged_scene (sym (fused inputs))
