-- When a call may answer that the outside failed, by the outside's own count of its faults.
use Rattle.std.specs.Prelude.{◌≡◌, ◌+◌, ◌-◌, ◌^◌, ◌≤◌, min, ℕ, Result, OnOk, IsErrOf}
use Rattle.hd_io.specs.declared.fault.OutsideFault.{OutsideFault}
use Rattle.hd_io.specs.declared.fault.OutsideFault.TheVariants.{Failed, NoMemory}

-- the count has not fallen, and has risen or is at the greatest u64
pub record Rose (before now : ℕ) : Type 0 where
  pub later : before ≤ now
  pub risen : min (before + 1) (2 ^ 64 - 1) ≤ now

-- a count of faults has risen where a call failed, and is as it was after any other answer
pub record HasCause {T : Type 0} (before now : ℕ) (result : Result T OutsideFault) : Type 0 where
  pub failed : IsErrOf result Failed → Rose before now
  pub kept : OnOk result (now ≡ before)
  pub refused : IsErrOf result NoMemory → now ≡ before
