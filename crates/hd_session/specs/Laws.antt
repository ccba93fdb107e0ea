-- What follows from the definitions.
use Rattle.std.specs.Prelude.{◌≡◌, ℕ, List, [], Bool, true, false, Err}
use Rattle.hd_layer.specs.declared.limits.Which.TheVariants.{Prims, Depth}
use Rattle.hd_script.specs.declared.command.Command as commands
use Rattle.hd_script.specs.declared.command.Command.TheVariants as command
use Rattle.hd_session.specs.declared.refusal.ScriptWhy.TheVariants.{NoPrim, PrimThere, UnderItself, NoLayer, Later}
use Rattle.hd_session.specs.declared.refusal.Refusal.{Refusal}
use Rattle.hd_session.specs.declared.refusal.Refusal.TheVariants.{Script, Limit, WriteFault, NoMemory}
use Rattle.hd_session.specs.States.{State}
use Rattle.hd_retained.specs.Layers.{Layer}
use Rattle.hd_session.specs.Steps.{silent, step}

-- the commands that are served
abbrev pub is_served : commands.Command → Bool
is_served (command.Layer number) = true
is_served (command.Edit edit) = true
is_served command.Commit = true
is_served (command.Dump name) = true
is_served command.Report = false
is_served (command.Start name width height camera) = false
is_served (command.Tiles count) = false
is_served command.Pause = false
is_served command.Resume = false
is_served command.Stop = false
is_served command.Wait = false

-- another command is refused as one that comes later, in any state
abbrev pub OthersAreLater : Type 0
OthersAreLater = (s : State) (given : commands.Command) (tiles : List ℕ) → is_served given ≡ false → step s given tiles ≡ silent (Err (Script Later)) tiles

-- the causes that steps have: those of edits, a layer that is not there, and a command that comes later
abbrev pub is_own_cause : Refusal → Bool
is_own_cause (Script NoPrim) = true
is_own_cause (Script PrimThere) = true
is_own_cause (Script UnderItself) = true
is_own_cause (Script NoLayer) = true
is_own_cause (Script Later) = true
is_own_cause (Script why) = false
is_own_cause (Limit Prims) = true
is_own_cause (Limit Depth) = true
is_own_cause (Limit which) = false
is_own_cause WriteFault = false
is_own_cause NoMemory = false

-- a step is refused by such a cause alone: that a write fails, or memory runs out, is no part of it
abbrev pub StepsHaveOwnCauses : Type 0
StepsHaveOwnCauses = (s : State) (given : commands.Command) (tiles : List ℕ) (why : Refusal) → (step s given tiles).after ≡ Err why → is_own_cause why ≡ true

-- the state after a step, or its refusal, does not depend on the counts of tiles
abbrev pub StatesIgnoreTiles : Type 0
StatesIgnoreTiles = (s : State) (given : commands.Command) (one other : List ℕ) → (step s given one).after ≡ (step s given other).after

-- a command that edits, and one that is not served, write nothing
abbrev pub is_silent : commands.Command → Bool
is_silent command.Commit = false
is_silent (command.Dump name) = false
is_silent given = true

abbrev pub SilentWriteNothing : Type 0
SilentWriteNothing = (s : State) (given : commands.Command) (tiles : List ℕ) → is_silent given ≡ true → (step s given tiles).acts ≡ []

-- a dump tells what was committed, whatever was edited since
abbrev pub DumpsTellWhatIsCommitted : Type 0
DumpsTellWhatIsCommitted = (s : State) (layers : List Layer) (name : List ℕ) (tiles : List ℕ) → (step (record s { layers = layers }) (command.Dump name) tiles).acts ≡ (step s (command.Dump name) tiles).acts
