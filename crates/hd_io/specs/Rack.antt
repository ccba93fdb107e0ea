-- What a rack says of itself, and what its calls make of that.
use Rattle.std.specs.Prelude.{◌≡◌, ℕ, List, length, take, Bool, true, false, Option}
use Rattle.std.specs.Option.{option_map}
use Rattle.hd_io.specs.Causes.{Rose}
use Rattle.hd_io.specs.Files.{FileList, with_file, with_bytes}
use Rattle.hd_io.specs.Offers.{Offers, with_offer}

-- the files in the order of their creation, where the rack tells them, and whether the last one is open; what the writes were
-- offered, where the rack tells it; and how often a call has failed
pub record RackState : Type 0 where
  pub files : Option FileList
  pub is_open : Bool
  pub offers : Option Offers
  pub faults : ℕ

-- one file more, which has this name, is empty and is open
abbrev pub with_created : List ℕ → RackState → RackState
with_created name rack = record rack { files = option_map (with_file name) rack.files; is_open = true }

-- the first n bytes of the piece that was offered are at the end of the last file
abbrev pub with_written : List ℕ → ℕ → RackState → RackState
with_written piece n rack = record rack {
  files = option_map (with_bytes (take n piece)) rack.files;
  offers = option_map (with_offer (length piece) n) rack.offers;
}

-- the last file is closed
abbrev pub with_closed : RackState → RackState
with_closed rack = record rack { is_open = false }

-- a call failed and was counted, and all else is as it was
pub record HasFailed (before now : RackState) : Type 0 where
  pub counted : Rose before.faults now.faults
  pub same : now ≡ record before { faults = now.faults }
