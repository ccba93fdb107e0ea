-- An index shows a scene: its table has the scene's rows, and its registry what they use.
use Rattle.std.specs.Prelude.{◌≡◌, ℕ, ◌+◌, ◌≤◌, Bool, true, false, if◌then◌else◌, List, [], ◌∷◌, map, Option, Some, None}
use Rattle.hd_registry.specs.Entries.{Entries, entry_at, content_at, users_at, is_kept, Unique}
use Rattle.hd_sync.specs.Syncing.{uses_all}
use Rattle.hd_scene.specs.Scenes.{Scene}
use Rattle.hd_rprim.specs.declared.buffer.Buffer.{Buffer}
use Rattle.hd_rprim.specs.contracts.buffer.BufferPartialEq.TheImpl as buffers
use Rattle.hd_rprim.specs.declared.row_table.PathRow.{PathRow}
use Rattle.hd_rprim.specs.Shown.{ShownRow, slots_of, without_slots, shown}
use Rattle.hd_rprim.specs.PrimRows.{rows_of}

-- each kept entry has a user
abbrev pub EachIsUsed : Entries Buffer → Type 0
EachIsUsed entries = (slot : ℕ) → is_kept entries slot ≡ true → 1 ≤ users_at entries slot

-- each slot has the same content and as many users
abbrev pub HasSameEntries : Entries Buffer → Entries Buffer → Type 0
HasSameEntries old new = (slot : ℕ) → entry_at new slot ≡ entry_at old slot

-- the table and the registry show the scene
pub record Shows (scene : Scene) (table : List PathRow) (entries : Entries Buffer) : Type 0 where
  -- with contents for slots, the rows are those of the scene
  pub rows : map (shown entries) table ≡ rows_of scene
  -- a slot's users are its uses by rows
  pub users : (slot : ℕ) → users_at entries slot ≡ uses_all (map (λ r. slots_of r.row) table) slot
  -- nothing is kept that no row uses
  pub used : EachIsUsed entries

-- whether there is a content, and it is the buffer
abbrev pub is_buffer : Buffer → Option Buffer → Bool
is_buffer buffer None = false
is_buffer buffer (Some content) = (buffers.ghosts).eq content buffer

-- how many of the contents are the buffer
abbrev pub uses_among : Buffer → List (Option Buffer) → ℕ
uses_among buffer [] = 0
uses_among buffer (content ∷ contents) = (if is_buffer buffer content then 1 else 0) + uses_among buffer contents

-- how many places of the rows' contents have the buffer
abbrev pub uses_in : Buffer → List ShownRow → ℕ
uses_in buffer [] = 0
uses_in buffer (row ∷ rows) = uses_among buffer row.contents + uses_in buffer rows

-- some slot has the buffer
abbrev pub HasBuffer : Entries Buffer → Buffer → Type 0
HasBuffer entries buffer = (slot : ℕ) × (content_at entries slot ≡ Some buffer)

-- the entries are those of the rows' contents: each buffer once, with the number of its uses, and no other
pub record HasEntries (rows : List ShownRow) (entries : Entries Buffer) : Type 0 where
  pub unique : Unique entries
  pub users : (slot : ℕ) (buffer : Buffer) → content_at entries slot ≡ Some buffer → users_at entries slot ≡ uses_in buffer rows
  pub kept : (buffer : Buffer) → 1 ≤ uses_in buffer rows → HasBuffer entries buffer
  pub used : EachIsUsed entries

-- a row of a table, and its slots left out
abbrev pub slots_left_out : PathRow → PathRow
slots_left_out r = record { path = r.path; row = without_slots r.row }

-- a row that is shown, and its contents left out
abbrev pub contents_left_out : ShownRow → PathRow
contents_left_out r = record { path = r.path; row = r.row }
