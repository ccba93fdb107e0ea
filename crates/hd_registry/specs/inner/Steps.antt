-- How the places of a registry change.
use Rattle.std.specs.Prelude.{◌≡◌, ◌≢◌, ℕ, Some}
use Rattle.hd_registry.specs.declared.content.Entry.{Entry}
use Rattle.hd_registry.specs.Entries.{Entries, entry_at}

-- an entry comes to a place, and all others stay
pub record Puts {C : Type 0} (old : Entries C) (place : ℕ) (entry : Entry C) (new : Entries C) : Type 0 where
  pub there : entry_at new place ≡ Some entry
  pub others : (t : ℕ) → t ≢ place → entry_at new t ≡ entry_at old t
