-- The slots of rows are kept where the users of slots are their uses by rows.
use Rattle.std.proofs.Common.{◌≡◌, ℕ, ◌≤◌, true, cond, All, List, [], ◌∷◌, map, Option, Some, None, is_some, refl, sym, ◌∙◌, ap, subst, arith}
use Rattle.std.proofs.lemmas.List.Elements.{All-nil, All-cons}
use Rattle.std.proofs.lemmas.Bool.Decides.{Decides-eqb}
use Rattle.hd_registry.specs.declared.content.Entry.{Entry}
use Rattle.hd_registry.specs.Entries.{Entries, entry_at, content_of, users_of, is_kept, one_at}
use Rattle.hd_sync.specs.Syncing.{uses, uses_of, uses_all}
use Rattle.hd_scene.specs.Scenes.{Scene}
use Rattle.hd_rprim.specs.declared.buffer.Buffer.{Buffer}
use Rattle.hd_rprim.specs.declared.row_table.PathRow.{PathRow}
use Rattle.hd_rprim.specs.PrimRows.{rows_of}
use Rattle.hd_rprim.specs.Shown.{slots_of, shown, KeepsSlot, KeepsSlots}
use Rattle.hd_index.specs.Index.{Shows, slots_left_out, contents_left_out}

-- a slot with users is kept
kept_entry : (entry : Option (Entry Buffer)) → 1 ≤ users_of entry → is_some (content_of entry) ≡ true
kept_entry None used = absurd (omega arith)
kept_entry (Some entry) used = refl

one_use : (slot : ℕ) → 1 ≤ one_at slot slot
one_use slot = let one : one_at slot slot ≡ 1 = ap (λ b. cond b 1 0) ((Decides-eqb slot slot).1 refl) in omega arith

module _ (es : Entries Buffer) where
  kept_slot : (slot : Option ℕ) → ((t : ℕ) → 1 ≤ uses slot t → is_kept es t ≡ true) → KeepsSlot es slot
  kept_slot None kept = refl
  kept_slot (Some slot) kept = kept slot (one_use slot)

  kept_slots : (slots : List (Option ℕ)) → ((t : ℕ) → 1 ≤ uses_of slots t → is_kept es t ≡ true) → All (KeepsSlot es) slots
  kept_slots [] kept = All-nil (KeepsSlot es)
  kept_slots (slot ∷ slots) kept =
      All-cons (KeepsSlot es) slot slots (kept_slot slot (λ t used. kept t (omega arith))) (kept_slots slots (λ t used. kept t (omega arith)))

  kept_rows : (table : List PathRow) → ((t : ℕ) → 1 ≤ uses_all (map (λ r. slots_of r.row) table) t → is_kept es t ≡ true) → KeepsSlots table es
  kept_rows [] kept = All-nil (λ (r : PathRow). All (KeepsSlot es) (slots_of r.row))
  kept_rows (r ∷ table) kept =
      All-cons (λ (r : PathRow). All (KeepsSlot es) (slots_of r.row)) r table (kept_slots (slots_of r.row) (λ t used. kept t (omega arith))) (kept_rows table (λ t used. kept t (omega arith)))

pub keeps_slots : (scene : Scene) (table : List PathRow) (es : Entries Buffer) → Shows scene table es → KeepsSlots table es
keeps_slots scene table es shows = kept_rows es table (λ t used. kept_entry (entry_at es t) (subst (λ n. 1 ≤ n) (sym (shows.users t)) used))

-- without their slots, the rows of the table are those of the scene
pub rows_alone : (scene : Scene) (table : List PathRow) (es : Entries Buffer) → Shows scene table es → map slots_left_out table ≡ map contents_left_out (rows_of scene)
rows_alone scene table es shows = alone table ∙ ap (map contents_left_out) shows.rows
  where
    alone : (rows : List PathRow) → map slots_left_out rows ≡ map contents_left_out (map (shown es) rows)
    alone [] = refl
    alone (r ∷ rows) = ap (λ others. slots_left_out r ∷ others) (alone rows)
