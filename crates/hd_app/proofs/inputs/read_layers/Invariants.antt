use Rattle.std.proofs.Common.{◌≡◌, ◌+◌, ◌≤◌, map, take, drop, string_bytes, vec_len}
use Rattle.std.specs.Prelude.{All, IfSome, IsTrue, max}
use Rattle.hd_layer.specs.WellFormed.{is_layer}
use Rattle.hd_app.specs.Outcomes.{layers_in, byte_limit}
use Rattle.hd_app.specs.Runs.{SpellLayers}
use Rattle.hd_app.proofs.InputLemmas.{after}
use Rattle.hd_app.proofs.inputs.read_layers.Given as goal

-- the layers so far were read, and those that are left come after them
abbrev pub invariant-loop-name : goal.invariant-loop-name
invariant-loop-name g l = record {
  files : (g.S.Shelf.state l.shelf).files ≡ (g.S.Shelf.state l.fn.shelf).files;
  faults : (g.S.Shelf.state l.shelf).faults ≡ (g.S.Shelf.state l.fn.shelf).faults;
  taken : (g.S.Shelf.state l.shelf).taken ≤ max (g.S.Shelf.state l.fn.shelf).taken (byte_limit + 1);
  count : vec_len l.layers ≡ l.name-index;
  formed : All (λ layer. IsTrue (is_layer layer)) l.layers.items;
  spelled : IfSome (g.S.Shelf.state l.fn.shelf).files (λ files. SpellLayers files (take l.name-index (map string_bytes l.names)));
  read : IfSome (g.S.Shelf.state l.fn.shelf).files (λ files.
      layers_in files (map string_bytes l.names) ≡ after l.layers.items (layers_in files (drop l.name-index (map string_bytes l.names))));
}
