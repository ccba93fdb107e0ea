-- What a shelf in memory holds.
use Rattle.std.specs.Prelude.{◌≡◌, ◌≤◌, ℕ, List, length, Option, None, Some, IsSomeAnd, slice_get}
use Rattle.std.specs.Option.{option_map, option_and_then}
use Rattle.hd_io.specs.Files.{FileList, file_map, bytes_of}
use Rattle.hd_io.specs.Memory.{CallPlan}
use Rattle.hd_io.specs.Shelf.{ShelfState}

-- what a shelf in memory holds, and how its calls go
pub record MemoryShelfState : Type 0 where
  pub files : FileList
  pub opened : Option (List ℕ)
  pub taken : ℕ
  pub faults : ℕ
  pub failed : Option (List ℕ)
  pub calls : CallPlan

-- what it says of itself: all
abbrev pub shelf_state : MemoryShelfState → ShelfState
shelf_state shelf = record { files = Some (file_map shelf.files); opened = shelf.opened; taken = shelf.taken; faults = shelf.faults; failed = shelf.failed }

-- the name of the file at an index
abbrev pub name_at : FileList → Option ℕ → Option (List ℕ)
name_at files index = option_map (λ file. file.0) (option_and_then (slice_get files) index)

-- the open file is the one that its name finds, and has the bytes that were taken
abbrev pub IsPlaced : FileList → Option ℕ → ℕ → Type 0
IsPlaced files None taken = Unit {0}
IsPlaced files (Some index) taken = IsSomeAnd (slice_get files index) (λ file.
    (bytes_of (file_map files) file.0 ≡ Some file.1) × (taken ≤ length file.1))
