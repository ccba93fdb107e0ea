-- The slots that rows use, numbered by first use.
use Rattle.std.specs.Prelude.{◌≡◌, ℕ, true, ◌+◌, List, [], Option, None, fold, nat_eq, unwrap_or, slice_index_or}
use Rattle.std.specs.List.{filter_map, flat_map, AllByRecursion}
use Rattle.indexmap.specs.IndexMap.{IndexMap, get, keys}
use Rattle.hd_path.specs.Paths.{Path}
use Rattle.hd_registry.specs.Entries.{Entries, content_at, is_kept}
use Rattle.hd_rprim.specs.Shown.{slots_of}
use Rattle.hd_rprim.specs.declared.buffer.Buffer.{Buffer}
use Rattle.hd_rprim.specs.declared.buffer.Buffer.TheVariants.{Points}
use Rattle.hd_rprim.specs.declared.row.Row.{Row}
use Rattle.hd_rprim.specs.declared.row_table.PathRow.{PathRow}
use Rattle.hd_dump.specs.Contents.{with_item, distinct, number_in, users_in}
use Rattle.hd_dump.specs.Lines.{row_line, entry_line}

-- the slots that are there
abbrev pub slots_in : List (Option ℕ) → List ℕ
slots_in slots = filter_map (λ slot. slot) slots

-- the slots that some rows use, use by use
abbrev pub slot_uses : List PathRow → List ℕ
slot_uses rows = flat_map (λ r. slots_in (slots_of r.row)) rows

-- the line of a row, with the numbers of its slots
abbrev pub slot_line : List ℕ → Path → Row → List ℕ
slot_line slots path row =
    row_line path row
    (number_in nat_eq slots (slice_index_or (slots_of row) 0 None))
    (number_in nat_eq slots (slice_index_or (slots_of row) 1 None))
    (number_in nat_eq slots (slice_index_or (slots_of row) 2 None))

-- the number of uses that a map has of a slot
abbrev pub uses_at : {S : Type 0} → IndexMap ℕ ℕ S → ℕ → ℕ
uses_at users slot = unwrap_or (get nat_eq users slot) 0

-- more uses were counted
pub record Counts {S : Type 0} (old : IndexMap ℕ ℕ S) (used : List ℕ) (new : IndexMap ℕ ℕ S) : Type 0 where
  pub slots : keys new ≡ fold (with_item nat_eq) (keys old) used
  pub users : (slot : ℕ) → uses_at new slot ≡ uses_at old slot + users_in nat_eq used slot

-- all uses were counted
pub record CountsAll {S : Type 0} (used : List ℕ) (counted : IndexMap ℕ ℕ S) : Type 0 where
  pub slots : keys counted ≡ distinct nat_eq used
  pub users : (slot : ℕ) → uses_at counted slot ≡ users_in nat_eq used slot

-- the content of a kept slot, and no points where it is not kept
abbrev pub content_or_none : Entries Buffer → ℕ → Buffer
content_or_none entries slot = unwrap_or (content_at entries slot) (Points [])

-- the line of a slot's content, with the number of its uses
abbrev pub slot_entry_line : {S : Type 0} → Entries Buffer → IndexMap ℕ ℕ S → ℕ × ℕ → List ℕ
slot_entry_line entries users e = entry_line e.0 (content_or_none entries e.1) (uses_at users e.1)

-- each of the slots is kept
abbrev pub AreKept : Entries Buffer → List ℕ → Type 0
AreKept entries slots = AllByRecursion (λ slot. is_kept entries slot ≡ true) slots
