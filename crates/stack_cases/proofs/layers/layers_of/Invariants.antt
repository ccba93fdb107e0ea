use Rattle.std.specs.Prelude.{All, IsTrue}
use Rattle.hd_layer.specs.WellFormed.{is_layer}
use Rattle.stack_cases.proofs.layers.layers_of.Given as goal

-- the layers so far are well formed
abbrev pub invariant-loop-name : goal.invariant-loop-name
invariant-loop-name l = All (λ layer. IsTrue (is_layer layer)) l.layers.items
