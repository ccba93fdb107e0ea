-- What follows from the definitions.
use Rattle.std.specs.Prelude.{◌≡◌, List}
use Rattle.hd_retained.specs.Layers.{Layer}
use Rattle.hd_rprim.specs.PrimRows.{rows_of}
use Rattle.hd_stack.specs.Stacks.{terminal_scene, AreSound}
use Rattle.hd_attributes.specs.Rows.{index}

-- the rows of the scene of sound layers, read of its containers, are those that the layers' attributes give
abbrev pub RowsAreOfAttributes : Type 0
RowsAreOfAttributes = (layers : List Layer) → AreSound layers → rows_of (terminal_scene layers) ≡ index layers
