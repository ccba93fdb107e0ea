use Rattle.std.proofs.Common.{◌≡◌, take}
use Rattle.hd_retained.specs.inner.Indexed.{layer_in, IsSound}
use Rattle.hd_retained.proofs.Spelled.{ArePaths, layer_from}
use Rattle.hd_retained.proofs.prims.of_layer.Given as goal

abbrev pub invariant-loop-spec : goal.invariant-loop-spec
invariant-loop-spec l = record {
  sound : IsSound l.prims;
  layer : layer_in l.prims ≡ layer_from (take l.spec-index l.spec-items);
  paths : ArePaths (layer_from (take l.spec-index l.spec-items));
}
