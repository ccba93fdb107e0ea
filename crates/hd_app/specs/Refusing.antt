-- What the program writes, and how it ends.
use Rattle.std.specs.Prelude.{List, [], ◌∷◌}
use Rattle.hd_io.specs.Acts.{Act, line}
use Rattle.hd_app.specs.declared.status.Status.{Status}
use Rattle.hd_app.specs.FaultLines.{fault_line}

pub record Outcome : Type 0 where
  pub acts : List Act
  pub ending : Status

-- a refusal tells itself by its line
abbrev pub refusal_outcome : Status → Outcome
refusal_outcome status = record { acts = line (fault_line status) ∷ []; ending = status }
