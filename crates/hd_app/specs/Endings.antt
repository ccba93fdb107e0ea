-- How a run ends.
use Rattle.std.specs.Prelude.{◌≡◌}
use Rattle.hd_io.specs.Acts.{Outside, Wrote, NoFault}
use Rattle.hd_app.specs.declared.status.Status.{Status}
use Rattle.hd_app.specs.declared.status.Status.TheVariants.{Done, Usage, Layer, Script, Limit, ReadFault, WriteFault, NoMemory}
use Rattle.hd_app.specs.Refusing.{Outcome}

-- the outcome's acts were made whole, and its ending is the status
pub record EndsWhole (outcome : Outcome) (before now : Outside) (status : Status) : Type 0 where
  pub ending : status ≡ outcome.ending
  pub written : Wrote outcome.acts before now
  pub faults : NoFault before now

-- the endings that the words and the files decide
abbrev pub IsDecided : Status → Type 0
IsDecided Done = Unit {0}
IsDecided Usage = Unit {0}
IsDecided (Layer file line why) = Unit {0}
IsDecided (Script line cause) = Unit {0}
IsDecided (Limit place which count) = Unit {0}
IsDecided (ReadFault name) = ⊥
IsDecided WriteFault = ⊥
IsDecided NoMemory = ⊥

-- a file could not be read
abbrev pub IsReadFault : Status → Type 0
IsReadFault (ReadFault name) = Unit {0}
IsReadFault Done = ⊥
IsReadFault Usage = ⊥
IsReadFault (Layer file line why) = ⊥
IsReadFault (Script line cause) = ⊥
IsReadFault (Limit place which count) = ⊥
IsReadFault WriteFault = ⊥
IsReadFault NoMemory = ⊥

-- the run was interrupted
abbrev pub IsInterruption : Status → Type 0
IsInterruption WriteFault = Unit {0}
IsInterruption NoMemory = Unit {0}
IsInterruption Done = ⊥
IsInterruption Usage = ⊥
IsInterruption (Layer file line why) = ⊥
IsInterruption (Script line cause) = ⊥
IsInterruption (Limit place which count) = ⊥
IsInterruption (ReadFault name) = ⊥
