-- What a shelf says of itself, and what its calls make of that.
use Rattle.std.specs.Prelude.{◌≡◌, ◌+◌, ◌≤◌, ℕ, List, length, take, drop, Option, Some}
use Rattle.hd_io.specs.Causes.{Rose}
use Rattle.hd_io.specs.Files.{FileMap}

-- the files by their names, where the shelf tells them; the name of the open file, and how many bytes were taken from it; how
-- often a call has failed, and the name that the last failed call concerned
pub record ShelfState : Type 0 where
  pub files : Option FileMap
  pub opened : Option (List ℕ)
  pub taken : ℕ
  pub faults : ℕ
  pub failed : Option (List ℕ)

-- the file of this name is open at its first byte
abbrev pub with_open : List ℕ → ShelfState → ShelfState
with_open name shelf = record shelf { opened = Some name; taken = 0 }

-- so many bytes more were taken from the open file
abbrev pub with_taken : ℕ → ShelfState → ShelfState
with_taken n shelf = record shelf { taken = shelf.taken + n }

-- a call that concerned this name failed and was counted, and all else is as it was
pub record HasFailed (concerned : Option (List ℕ)) (before now : ShelfState) : Type 0 where
  pub counted : Rose before.faults now.faults
  pub noted : now ≡ record before { faults = now.faults; failed = concerned }

-- n bytes at the front of a buffer are those that are at this place of the file, and are none only at its end
pub record ReadsNext (file : List ℕ) (place n : ℕ) (buffer : List ℕ) : Type 0 where
  pub same : take n buffer ≡ take n (drop place file)
  pub within : place + n ≤ length file
  pub ended : n ≡ 0 → place ≡ length file
