-- Rows as they are shown: with the contents of their slots in place of the slots.
use Rattle.std.specs.Prelude.{◌≡◌, ℕ, Bool, true, List, [], ◌∷◌, All, Option, Some, None}
use Rattle.hd_path.specs.Paths.{Path}
use Rattle.hd_registry.specs.Entries.{Entries, is_kept}
use Rattle.hd_sync.specs.Syncing.{contents_given}
use Rattle.hd_rprim.specs.declared.buffer.Buffer.{Buffer}
use Rattle.hd_rprim.specs.declared.row.Row.{Row}
use Rattle.hd_rprim.specs.declared.row.Row.TheVariants.{Rprim, Camera, Material, Instancer}
use Rattle.hd_rprim.specs.declared.row_table.PathRow.{PathRow}

-- the slots of a row, in the order of what it wants: points, triangles, colors
abbrev pub slots_of : Row → List (Option ℕ)
slots_of (Rprim row) = row.points ∷ row.triangles ∷ row.colors ∷ []
slots_of _ = None ∷ None ∷ None ∷ []

abbrev pub without_slots : Row → Row
without_slots (Rprim row) = Rprim (record row { points = None; triangles = None; colors = None })
without_slots (Camera matrix) = Camera matrix
without_slots (Material color) = Material color
without_slots (Instancer row) = Instancer row

-- a prim's row, and apart from it the points, the triangles and the colors that it has
pub record ShownRow : Type 0 where
  pub path : Path
  -- without slots
  pub row : Row
  pub contents : List (Option Buffer)

-- a row of a table, with the contents that its slots have in a registry
abbrev pub shown : Entries Buffer → PathRow → ShownRow
shown entries r = record { path = r.path; row = without_slots r.row; contents = contents_given entries (slots_of r.row) }

-- whether a slot, where there is one, is kept
abbrev pub is_slot_kept : Entries Buffer → Option ℕ → Bool
is_slot_kept entries None = true
is_slot_kept entries (Some slot) = is_kept entries slot

abbrev pub KeepsSlot : Entries Buffer → Option ℕ → Type 0
KeepsSlot entries slot = is_slot_kept entries slot ≡ true

-- each slot of each row is kept
abbrev pub KeepsSlots : List PathRow → Entries Buffer → Type 0
KeepsSlots rows entries = All (λ r. All (KeepsSlot entries) (slots_of r.row)) rows
