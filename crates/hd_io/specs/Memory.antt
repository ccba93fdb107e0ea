-- How the calls of an object in memory go.
use Rattle.std.specs.Prelude.{◌≡◌, ◌+◌, ◌-◌, ◌^◌, min, ℕ, List, Contains, Result, OnOk}
use Rattle.hd_io.specs.declared.fault.OutsideFault.{OutsideFault}

-- the number of the next call, the numbers of the calls that fail, and the most bytes that one call moves
pub record CallPlan : Type 0 where
  pub next : ℕ
  pub failing : List ℕ
  pub piece : ℕ

-- no call was made yet
abbrev pub first_call : List ℕ → ℕ → CallPlan
first_call failing piece = record { next = 0; failing = failing; piece = piece }

-- one more call was made
abbrev pub count_call : CallPlan → CallPlan
count_call plan = record { next = min (plan.next + 1) (2 ^ 64 - 1); failing = plan.failing; piece = plan.piece }

-- the next call is one of those that fail
abbrev pub IsDue : CallPlan → Type 0
IsDue plan = Contains plan.failing plan.next

-- the call is counted, and is `Ok` only where it is not one of those that fail
pub record KeepsToPlan {T : Type 0} (before now : CallPlan) (result : Result T OutsideFault) : Type 0 where
  pub counts : now ≡ count_call before
  pub ok : OnOk result (¬ IsDue before)
