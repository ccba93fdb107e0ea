-- What a rack in memory holds.
use Rattle.std.specs.Prelude.{◌<◌, ℕ, Bool, length, IsTrue, Some}
use Rattle.hd_io.specs.Memory.{CallPlan}
use Rattle.hd_io.specs.Files.{FileList}
use Rattle.hd_io.specs.Offers.{Offers}
use Rattle.hd_io.specs.Rack.{RackState}

-- what a rack in memory holds, and how its calls go
pub record MemoryRackState : Type 0 where
  pub files : FileList
  pub is_open : Bool
  pub offers : Offers
  pub faults : ℕ
  pub calls : CallPlan

-- what it says of itself: all
abbrev pub rack_state : MemoryRackState → RackState
rack_state rack = record { files = Some rack.files; is_open = rack.is_open; offers = Some rack.offers; faults = rack.faults }

-- where a file is open there is one
abbrev pub HasOpenFile : FileList → Bool → Type 0
HasOpenFile files is_open = IsTrue is_open → 0 < length files
