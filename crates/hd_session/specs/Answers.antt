-- What the answer to a command says.
use Rattle.std.specs.Prelude.{◌≡◌, Result, Ok, Err}
use Rattle.hd_io.specs.Acts.{Outside, Wrote, WroteCut, NoFault, WriteFailed}
use Rattle.hd_io.specs.declared.fault.OutsideFault.{OutsideFault}
use Rattle.hd_io.specs.declared.fault.OutsideFault.TheVariants as outside
use Rattle.hd_session.specs.declared.refusal.Refusal.{Refusal}
use Rattle.hd_session.specs.declared.refusal.Refusal.TheVariants.{Script, Limit, WriteFault, NoMemory}
use Rattle.hd_session.specs.States.{State}
use Rattle.hd_session.specs.Steps.{Step}

-- a step ended so: its acts were made whole, and no object failed
pub record Ends {E : Type 0} (step : Step E) (after : Result State E) (before now : Outside) : Type 0 where
  pub is : step.after ≡ after
  pub written : Wrote step.acts before now
  pub faults : NoFault before now

-- a step was done
abbrev pub Does : {E : Type 0} → Step E → (after : State) → (before now : Outside) → Type 0
Does step after before now = Ends step (Ok after) before now

-- a step was interrupted, since a write failed
abbrev pub FailsToWrite : {E : Type 0} → Step E → (before now : Outside) → Type 0
FailsToWrite step before now = WroteCut step.acts before now × WriteFailed before now

-- a step was interrupted, since memory ran out
abbrev pub WantsMemory : {E : Type 0} → Step E → (before now : Outside) → Type 0
WantsMemory step before now = WroteCut step.acts before now × NoFault before now

-- why the step of a command was not done: it is refused, or it was interrupted
abbrev pub Refuses : Step Refusal → (before now : Outside) → Refusal → Type 0
Refuses step before now (Script why) = Ends step (Err (Script why)) before now
Refuses step before now (Limit which) = Ends step (Err (Limit which)) before now
Refuses step before now WriteFault = FailsToWrite step before now
Refuses step before now NoMemory = WantsMemory step before now

-- the refusal of a command whose writing ended so
abbrev pub write_refusal : OutsideFault → Refusal
write_refusal outside.Failed = WriteFault
write_refusal outside.NoMemory = NoMemory
