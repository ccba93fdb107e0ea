-- What follows from the definition of the outcome.
use Rattle.std.specs.Prelude.{◌≡◌, ℕ, List}
use Rattle.hd_io.specs.Files.{FileMap}
use Rattle.hd_app.specs.Endings.{IsInterruption}
use Rattle.hd_app.specs.Outcomes.{outcome}

-- no outcome is itself interrupted: that a write fails, or memory runs out, comes from outside
abbrev pub OutcomesEndWhole : Type 0
OutcomesEndWhole = (words : List (List ℕ)) (files : FileMap) (tiles : List ℕ) → ¬ IsInterruption (outcome words files tiles).ending

-- the ending does not depend on the counts of tiles
abbrev pub EndingsIgnoreTiles : Type 0
EndingsIgnoreTiles = (words : List (List ℕ)) (files : FileMap) (one other : List ℕ) → (outcome words files one).ending ≡ (outcome words files other).ending
