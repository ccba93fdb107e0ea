-- What contracts see of a merging.
use Rattle.std.specs.Prelude.{ℕ, List}

-- its inputs, of which the first is the strongest, and how often it was asked for a prim
pub record Merged (I : Type 0) : Type 0 where
  pub inputs : List I
  pub pulls : ℕ
