use Rattle.std.proofs.Common.{◌≡◌, List, [], ◌∷◌, ◌++◌, map, length, IsTrue, sym, ◌∙◌, ap, subst, arith}
use Rattle.std.proofs.lemmas.List.Elements.{All-nil}
use Rattle.std.specs.Prelude.{All}
use Rattle.std.specs.Vec.Iter.{into_iter_items}
use Rattle.hd_layer.specs.WellFormed.{is_layer}
use Rattle.hd_layer.specs.declared.spec.LayerSpec.{LayerSpec}
use Rattle.hd_retained.specs.Edits.{State}
use Rattle.hd_retained.specs.Layers.{layer_of}
use Rattle.hd_merging.specs.Merged.{Merged}
use Rattle.hd_stack.specs.Stacks.{IsSound, IsStack, AreSound}
use Rattle.hd_stack.specs.inner.Terminals.{layers_of}
use Rattle.hd_stack.proofs.Layered.{layers_all, layers_more, sound_more, first_formed, stack_of}
use Rattle.hd_stack.proofs.stack.Stack.new.Goals as goal

pub loop-layer-init : goal.loop-layer-init
loop-layer-init c =
    let gives = c.into_iter-layer-iterator.ensures.into_iter_gives in
    let left : List LayerSpec = into_iter_items c.into_iter-layer-iterator.result in
    let none = c.in_ok-inputs.ensures.items in
    let many : length left ≡ length c.args.layers.items = ap (λ (specs : List LayerSpec). length specs) gives.0 in
    record {
      layers = ap (map layer_of) (sym gives.0) ∙ ap (λ (inputs : List State). layers_of inputs ++ map layer_of left) (sym none);
      sound = subst (λ (inputs : List State). AreSound (layers_of inputs)) (sym none) (All-nil IsSound);
      formed = subst (All (λ (layer : LayerSpec). IsTrue (is_layer layer))) (sym gives.0) c.requires.formed;
      counted = omega (arith, gives.1, c.args.layers.ok, many);
    }

pub loop-layer-preserved : goal.loop-layer-preserved
loop-layer-preserved c =
    let before = c.loop-layer.invariant in
    let inputs : List State = c.loop-layer.inputs.items in
    let left : List LayerSpec = into_iter_items c.loop-layer.layer-iterator in
    let rest : List LayerSpec = into_iter_items c.next.new.self in
    let steps = c.in-Some.ensures.steps in
    let made : State = c.in_ok-input_of.field-0 in
    let pushed : c.push.new.self.items ≡ inputs ++ made ∷ [] = c.in_ok-push.ensures.items in
    let many : length left ≡ length (c.in-Some.layer ∷ rest) = ap (λ (specs : List LayerSpec). length specs) steps.0 in
    record {
      layers =
          layers_more inputs made c.in-Some.layer left rest (map layer_of c.args.layers.items) steps.0 c.in_ok-input_of.ensures.layer before.layers
          ∙ ap (λ (all : List State). layers_of all ++ map layer_of rest) (sym pushed);
      sound = subst (λ (all : List State). AreSound (layers_of all)) (sym pushed) (sound_more inputs made c.in_ok-input_of.ensures.sound before.sound);
      formed = (first_formed (λ (layer : LayerSpec). IsTrue (is_layer layer)) left rest c.in-Some.layer steps.0 before.formed).1;
      counted = omega (arith, steps.1, before.counted, many);
    }

pub terminal_of-requires : goal.terminal_of-requires
terminal_of-requires c =
    let inputs : List State = c.loop-layer.inputs.items in
    let specs : List LayerSpec = c.args.layers.items in
    let left : List LayerSpec = into_iter_items c.loop-layer.layer-iterator in
    let none : length left ≡ 0 = omega (arith, c.in-None.ensures.steps.0, c.loop-layer.invariant.counted) in
    let are = layers_all inputs left (map layer_of specs) none c.loop-layer.invariant.layers in
    subst (λ (m : Merged State). IsStack (layers_of m.inputs)) (sym c.new.ensures)
    (stack_of inputs specs are (omega (arith, c.requires.some, c.args.layers.ok)) (omega (arith, c.requires.few, c.args.layers.ok)) c.loop-layer.invariant.sound)
