-- How one want is registered.
use Rattle.std.specs.Prelude.{◌≡◌, ℕ, Option, is_some}
use Rattle.hd_registry.specs.Entries.{Entries, Extends, Fresh}
use Rattle.hd_sync.specs.Syncing.{content_given, uses}

-- a slot was given for a want
pub record SyncedOne {C : Type 0} (old new : Entries C) (want : Option C) (slot : Option ℕ) : Type 0 where
  pub content : content_given new slot ≡ want
  pub place : is_some slot ≡ is_some want
  pub extends : Extends old new (uses slot)
  pub fresh : Fresh old new (uses slot)
