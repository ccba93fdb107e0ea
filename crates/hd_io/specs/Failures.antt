-- What a shelf keeps of its failed calls.
use Rattle.std.specs.Prelude.{◌≡◌, List, ℕ, Option, Some, string_bytes}
use Rattle.std.specs.Option.{option_map}
use Rattle.hd_io.specs.declared.failures.Failures.{Failures}
use Rattle.hd_io.specs.Causes.{Rose}

-- the name that the last failed call concerned
abbrev pub failed_name : Failures → Option (List ℕ)
failed_name failures = option_map string_bytes failures.name

-- a failure at this name was noted and counted
pub record Notes (name : List ℕ) (before now : Failures) : Type 0 where
  pub counted : Rose before.count now.count
  pub noted : failed_name now ≡ Some name

-- nothing was noted
pub record NotesNothing (before now : Failures) : Type 0 where
  pub counted : now.count ≡ before.count
  pub noted : failed_name now ≡ failed_name before
