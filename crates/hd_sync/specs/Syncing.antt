-- What jobs want of a registry, and the slots that they are given.
use Rattle.std.specs.Prelude.{◌≡◌, ℕ, ◌+◌, ◌≤◌, List, [], ◌∷◌, map, Option, Some, None, is_some}
use Rattle.hd_registry.specs.Entries.{Entries, content_at, users_at, one_at, Extends, Fresh}
use Rattle.hd_sync.specs.declared.wants.Slots.{Slots}

-- the slots of a job, in the order of its wants
abbrev pub listed : Slots → List (Option ℕ)
listed slots = slots.first ∷ slots.second ∷ slots.third ∷ []

-- the uses of a slot by one that was given
abbrev pub uses : Option ℕ → ℕ → ℕ
uses None t = 0
uses (Some slot) t = one_at slot t

-- by all slots that a job was given
abbrev pub uses_of : List (Option ℕ) → ℕ → ℕ
uses_of [] t = 0
uses_of (slot ∷ slots) t = uses slot t + uses_of slots t

-- by all slots that some jobs were given
abbrev pub uses_all : List (List (Option ℕ)) → ℕ → ℕ
uses_all [] t = 0
uses_all (slots ∷ jobs) t = uses_of slots t + uses_all jobs t

-- the content of a slot that was given
abbrev pub content_given : {C : Type 0} → Entries C → Option ℕ → Option C
content_given entries None = None
content_given entries (Some slot) = content_at entries slot

-- the contents of all slots that a job was given
abbrev pub contents_given : {C : Type 0} → Entries C → List (Option ℕ) → List (Option C)
contents_given entries slots = map (content_given entries) slots

-- the jobs with these wants were given these slots
pub record Synced {C : Type 0} (old new : Entries C) (wants : List (List (Option C))) (given : List (List (Option ℕ))) : Type 0 where
  -- each slot has the content that was wanted
  pub contents : map (contents_given new) given ≡ wants
  -- a slot was given exactly where a content was wanted
  pub places : map (map is_some) given ≡ map (map is_some) wants
  -- each slot has the uses that were given, and all else stays
  pub extends : Extends old new (uses_all given)
  -- each new slot was given
  pub fresh : Fresh old new (uses_all given)

-- each slot has at least these uses
abbrev pub HasUses : {C : Type 0} → (ℕ → ℕ) → Entries C → Type 0
HasUses less entries = (slot : ℕ) → less slot ≤ users_at entries slot

-- contents stay, and the users fall by these
pub record Drops {C : Type 0} (old new : Entries C) (less : ℕ → ℕ) : Type 0 where
  pub contents : (slot : ℕ) → content_at new slot ≡ content_at old slot
  pub users : (slot : ℕ) → users_at new slot + less slot ≡ users_at old slot
