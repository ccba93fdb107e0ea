use Rattle.std.proofs.Common.{◌≡◌, ◌++◌, map, length, IsTrue}
use Rattle.std.specs.Prelude.{All}
use Rattle.std.specs.Vec.Iter.{into_iter_items, into_iter_len}
use Rattle.hd_layer.specs.WellFormed.{is_layer}
use Rattle.hd_retained.specs.Layers.{layer_of}
use Rattle.hd_stack.specs.Stacks.{AreSound}
use Rattle.hd_stack.specs.inner.Terminals.{layers_of}
use Rattle.hd_stack.proofs.stack.Stack.new.Given as goal

abbrev pub invariant-loop-layer : goal.invariant-loop-layer
invariant-loop-layer l = record {
  layers : map layer_of l.fn.layers.items ≡ layers_of l.inputs.items ++ map layer_of (into_iter_items l.layer-iterator);
  sound : AreSound (layers_of l.inputs.items);
  formed : All (λ layer. IsTrue (is_layer layer)) (into_iter_items l.layer-iterator);
  counted : into_iter_len l.layer-iterator ≡ length (into_iter_items l.layer-iterator);
}
