-- How the stages of a run end: as they were to, or interrupted.
use Rattle.std.specs.Prelude.{◌≡◌, ◌⊎◌, ℕ, List, [], Option, IfSome, IsSomeAnd}
use Rattle.hd_io.specs.declared.fault.OutsideFault.{OutsideFault}
use Rattle.hd_io.specs.declared.fault.OutsideFault.TheVariants as faults
use Rattle.hd_io.specs.Acts.{Outside, WroteCut, NoFault, WriteFailed}
use Rattle.hd_app.specs.declared.status.Status.{Status}
use Rattle.hd_app.specs.declared.status.Status.TheVariants.{ReadFault, WriteFault, NoMemory}
use Rattle.hd_app.specs.Commands.{Program}
use Rattle.hd_app.specs.Endings.{EndsWhole, IsReadFault}
use Rattle.hd_app.specs.Outcomes.{outcome_of}
use Rattle.hd_app.specs.inner.Refusals.{FailedAt}
use Rattle.hd_app.specs.Refusing.{Outcome, refusal_outcome}
use Rattle.hd_io.specs.Shelf.{ShelfState}
use Rattle.hd_app.specs.Runs.{IsReached, IsAnswerTo}

-- how a run ends whose write was interrupted
abbrev pub status_of_write : OutsideFault → Status
status_of_write faults.Failed = WriteFault
status_of_write faults.NoMemory = NoMemory

-- a write failed
pub record BreaksOff (outcome : Outcome) (before now : Outside) (status : Status) : Type 0 where
  pub ending : status ≡ WriteFault
  pub written : WroteCut outcome.acts before now
  pub faults : WriteFailed before now

-- memory ran out
pub record RunsOut (outcome : Outcome) (before now : Outside) (status : Status) : Type 0 where
  pub ending : status ≡ NoMemory
  pub written : WroteCut outcome.acts before now
  pub faults : NoFault before now

abbrev pub Ends : Outcome → (before now : Outside) → Status → Type 0
Ends outcome before now status = EndsWhole outcome before now status ⊎ (BreaksOff outcome before now status ⊎ RunsOut outcome before now status)

-- the shelf did not fail, and the run ended by an outcome, which is that of the files where they are told
pub record RunsByFiles (program : Option Program) (shelf_before shelf_now : ShelfState) (before now : Outside) (status : Status) : Type 0 where
  pub due : Outcome
  pub ends : Ends due before now status
  pub told : IfSome shelf_before.files (λ files. outcome_of files program [] ≡ due)
  pub faults : shelf_now.faults ≡ shelf_before.faults
  pub answer : IsAnswerTo program shelf_now status
  pub read : IsReadFault status → ⊥
  pub write : status ≡ WriteFault → WriteFailed before now

-- the shelf failed at a file, and the run ended by telling that
pub record RunsIntoFault (program : Option Program) (shelf_before shelf_now : ShelfState) (before now : Outside) (status : Status) : Type 0 where
  pub file : List ℕ
  pub reached : IsSomeAnd program (λ p. IsReached p shelf_before.files file)
  pub failed : FailedAt file shelf_before shelf_now
  pub ends : Ends (refusal_outcome (ReadFault file)) before now status

abbrev pub Runs : Option Program → (shelf_before shelf_now : ShelfState) → (before now : Outside) → Status → Type 0
Runs program shelf_before shelf_now before now status =
    RunsByFiles program shelf_before shelf_now before now status ⊎ RunsIntoFault program shelf_before shelf_now before now status
