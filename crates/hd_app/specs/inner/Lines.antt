-- What the answer to a line of a script says.
use Rattle.std.specs.Prelude.{ℕ, List, [], Option, Some, None, Err}
use Rattle.hd_io.specs.Acts.{Outside}
use Rattle.hd_session.specs.Answers.{Ends, FailsToWrite, WantsMemory}
use Rattle.hd_app.specs.declared.status.Status.{Status}
use Rattle.hd_app.specs.declared.status.Status.TheVariants.{Done, Usage, Layer, Script, Limit, ReadFault, WriteFault, NoMemory}
use Rattle.hd_app.specs.Scripts.{LineStep, lines_of}

-- why a line was not done
abbrev pub RefusesLine : LineStep → (before now : Outside) → Status → Type 0
RefusesLine step before now (Script line why) = Ends step (Err (Script line why)) before now
RefusesLine step before now (Limit place which count) = Ends step (Err (Limit place which count)) before now
RefusesLine step before now WriteFault = FailsToWrite step before now
RefusesLine step before now NoMemory = WantsMemory step before now
RefusesLine step before now Done = ⊥
RefusesLine step before now Usage = ⊥
RefusesLine step before now (Layer file line why) = ⊥
RefusesLine step before now (ReadFault name) = ⊥

-- the lines that are left of a text, where there are any
abbrev pub lines_left : Option (List ℕ) → List (List ℕ)
lines_left None = []
lines_left (Some text) = lines_of text
