-- A registry is a finite map from slots to contents with the number of their users: the list of its places, in which a
-- slot has its place, and a place without an entry is no kept slot.
use Rattle.std.specs.Prelude.{◌≡◌, ℕ, ◌+◌, ◌^◌, ◌<◌, ◌≤◌, Bool, true, false, ◌==◌, if◌then◌else◌, List, Option, Some, None, is_some}
use Rattle.std.specs.List.{slice_index_or, count_by}
use Rattle.hd_registry.specs.declared.content.Entry.{Entry}

abbrev pub Entries : Type 0 → Type 0
Entries C = List (Option (Entry C))

-- the entry of a slot, where the slot is kept
abbrev pub entry_at : {C : Type 0} → Entries C → ℕ → Option (Entry C)
entry_at entries slot = slice_index_or entries slot None

abbrev pub content_of : {C : Type 0} → Option (Entry C) → Option C
content_of None = None
content_of (Some entry) = Some entry.content

abbrev pub users_of : {C : Type 0} → Option (Entry C) → ℕ
users_of None = 0
users_of (Some entry) = entry.users

-- the content of a slot
abbrev pub content_at : {C : Type 0} → Entries C → ℕ → Option C
content_at entries slot = content_of (entry_at entries slot)

-- the number of its users, 0 where the slot is not kept
abbrev pub users_at : {C : Type 0} → Entries C → ℕ → ℕ
users_at entries slot = users_of (entry_at entries slot)

abbrev pub is_kept : {C : Type 0} → Entries C → ℕ → Bool
is_kept entries slot = is_some (content_at entries slot)

-- how many entries are kept
abbrev pub live_entries : {C : Type 0} → Entries C → ℕ
live_entries entries = count_by is_some entries

-- one use of a slot, as a function of slots
abbrev pub one_at : ℕ → ℕ → ℕ
one_at slot t = if slot == t then 1 else 0

-- each slot can have so many more users
abbrev pub HasRoom : {C : Type 0} → ℕ → Entries C → Type 0
HasRoom n entries = (slot : ℕ) → users_at entries slot + n < 2 ^ 64

-- no two slots have equal content
abbrev pub Unique : {C : Type 0} → Entries C → Type 0
Unique {C} entries = (s t : ℕ) (content : C) → content_at entries s ≡ Some content → content_at entries t ≡ Some content → s ≡ t

-- no slot has the content
abbrev pub Lacks : {C : Type 0} → Entries C → C → Type 0
Lacks entries content = (slot : ℕ) → content_at entries slot ≡ Some content → ⊥

-- kept slots keep their contents, and their users rise by these
pub record Extends {C : Type 0} (old new : Entries C) (more : ℕ → ℕ) : Type 0 where
  pub contents : (slot : ℕ) (content : C) → content_at old slot ≡ Some content → content_at new slot ≡ Some content
  pub users : (slot : ℕ) → users_at new slot ≡ users_at old slot + more slot

-- a slot that comes new has one of these uses
abbrev pub Fresh : {C : Type 0} → Entries C → Entries C → (ℕ → ℕ) → Type 0
Fresh old new more = (slot : ℕ) → content_at old slot ≡ None → is_kept new slot ≡ true → 1 ≤ more slot

-- the slot has the content and one more user, and all else stays; where a slot had the content, it is that slot
pub record Registers {C : Type 0} (old : Entries C) (slot : ℕ) (content : C) (new : Entries C) : Type 0 where
  pub extends : Extends old new (one_at slot)
  pub fresh : Fresh old new (one_at slot)
  pub has : content_at new slot ≡ Some content
  pub known : (t : ℕ) → content_at old t ≡ Some content → t ≡ slot

-- the slot has one more user
pub record Raises {C : Type 0} (old : Entries C) (slot : ℕ) (new : Entries C) : Type 0 where
  pub contents : (t : ℕ) → content_at new t ≡ content_at old t
  pub users : (t : ℕ) → users_at new t ≡ users_at old t + one_at slot t

-- the slot has one user less
pub record Lowers {C : Type 0} (old : Entries C) (slot : ℕ) (new : Entries C) : Type 0 where
  pub contents : (t : ℕ) → content_at new t ≡ content_at old t
  pub users : (t : ℕ) → users_at new t + one_at slot t ≡ users_at old t

-- an entry without users
abbrev pub is_unused : {C : Type 0} → Option (Entry C) → Bool
is_unused None = false
is_unused (Some entry) = entry.users == 0

-- an entry where it has users, else none
abbrev pub if_used : {C : Type 0} → Option (Entry C) → Option (Entry C)
if_used entry = if is_unused entry then None else entry

-- exactly the entries without users go
abbrev pub Collects : {C : Type 0} → Entries C → Entries C → Type 0
Collects old new = (slot : ℕ) → entry_at new slot ≡ if_used (entry_at old slot)
