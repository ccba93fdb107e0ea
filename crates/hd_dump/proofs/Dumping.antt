-- The dump by slots is the dump by contents.
use Rattle.std.proofs.Common.{◌≡◌, ℕ, suc, ◌+◌, List, [], ◌∷◌, ◌++◌, length, refl, ap, sym, subst, ◌∙◌, nat_eq, arith, Option, Some, None, slice_get, map, All}
use Rattle.std.specs.List.{filter_map, flat_map, enumerate_from, cons_option, AllByRecursion}
use Rattle.std.specs.Option.{option_map}
use Rattle.std.proofs.lemmas.List.{length-map, map-append}
use Rattle.indexmap.specs.IndexMap.{IndexMap, keys}
use Rattle.hd_path.specs.Paths.{Path}
use Rattle.hd_registry.specs.Entries.{Entries, Unique}
use Rattle.hd_sync.specs.Syncing.{content_given}
use Rattle.hd_rprim.specs.declared.buffer.Buffer.{Buffer}
use Rattle.hd_rprim.specs.declared.row.Shape.{Shape}
use Rattle.hd_rprim.specs.declared.row.Shape.TheVariants.{Mesh, Points}
use Rattle.hd_rprim.specs.declared.row.RprimRow.{RprimRow}
use Rattle.hd_rprim.specs.declared.row.Row.{Row}
use Rattle.hd_rprim.specs.declared.row.Row.TheVariants.{Rprim, Camera, Material, Instancer}
use Rattle.hd_rprim.specs.declared.row_table.PathRow.{PathRow}
use Rattle.hd_rprim.specs.Shown.{slots_of, shown, KeepsSlot}
use Rattle.hd_dump.specs.Contents.{same, uses, distinct, number_in, users_in}
use Rattle.hd_dump.specs.Dumps.{line_of, head_line, dump_text}
use Rattle.hd_dump.specs.Lines.{shape_line, entry_line}
use Rattle.hd_dump.specs.inner.Numbering.{slots_in, slot_uses, slot_line, slot_entry_line, content_or_none, AreKept, CountsAll}
use Rattle.hd_dump.proofs.Agreement.{content_there, distinct_alike, distinct_kept, number_alike, users_alike}

-- the row with a path and a row that were found at a place
pub row_there : (rows : List PathRow) (i : ℕ) (path : Path) (row : Row)
    → Some path ≡ option_map (λ (r : PathRow). r.path) (slice_get rows i) → Some row ≡ option_map (λ (r : PathRow). r.row) (slice_get rows i)
    → slice_get rows i ≡ Some (record { path = path; row = row })
row_there rows i path row has_path has_row = by (slice_get rows i) has_path has_row
  where
    by : (found : Option PathRow) → Some path ≡ option_map (λ (r : PathRow). r.path) found → Some row ≡ option_map (λ (r : PathRow). r.row) found
        → found ≡ Some (record { path = path; row = row })
    by None p q = absurd (cc)
    by (Some r) p q =
        let its_path : r.path ≡ path = cc in
        let its_row : r.row ≡ row = cc in
        (λ j. Some (record { path = its_path j; row = its_row j }))

each : {A : Type 0} (P : A → Type 0) (xs : List A) → All P xs → AllByRecursion P xs
each P [] all = tt
each P (x ∷ xs) all = (all 0 x (omega arith), each P xs (λ k d lt. all (suc k) d (omega arith)))

shape_line_same : (shape : Shape) (path : Path) (row : RprimRow) (p t c : Option ℕ)
    → shape_line shape path (record row { points = None; triangles = None; colors = None }) p t c ≡ shape_line shape path row p t c
shape_line_same Mesh path row p t c = refl
shape_line_same Points path row p t c = refl

module _ (entries : Entries Buffer) where
  -- each slot of each row is kept
  abbrev KeepsRows : List PathRow → Type 0
  KeepsRows rows = AllByRecursion (λ (r : PathRow). All (KeepsSlot entries) (slots_of r.row)) rows

  contents_used : (slots : List (Option ℕ)) → AllByRecursion (KeepsSlot entries) slots
      → filter_map (λ (content : Option Buffer). content) (map (content_given entries) slots) ≡ map (content_or_none entries) (slots_in slots)
  contents_used [] kept = refl
  contents_used (None ∷ slots) kept = contents_used slots kept.1
  contents_used (Some slot ∷ slots) kept =
      ap (λ (o : Option Buffer). cons_option o (filter_map (λ (content : Option Buffer). content) (map (content_given entries) slots))) (content_there entries slot kept.0)
      ∙ ap (λ (xs : List Buffer). content_or_none entries slot ∷ xs) (contents_used slots kept.1)

  uses_shown : (rows : List PathRow) → KeepsRows rows → uses (map (shown entries) rows) ≡ map (content_or_none entries) (slot_uses rows)
  uses_shown [] kept = refl
  uses_shown (r ∷ rows) kept =
      let first = contents_used (slots_of r.row) (each (KeepsSlot entries) (slots_of r.row) kept.0) in
      let others = uses_shown rows kept.1 in
      (λ i. first i ++ others i) ∙ sym (map-append (content_or_none entries) (slots_in (slots_of r.row)) (slot_uses rows))

  slots_kept : (slots : List (Option ℕ)) (others : List ℕ) → AllByRecursion (KeepsSlot entries) slots → AreKept entries others → AreKept entries (slots_in slots ++ others)
  slots_kept [] others kept all = all
  slots_kept (None ∷ slots) others kept all = slots_kept slots others kept.1 all
  slots_kept (Some slot ∷ slots) others kept all = (kept.0, slots_kept slots others kept.1 all)

  uses_kept : (rows : List PathRow) → KeepsRows rows → AreKept entries (slot_uses rows)
  uses_kept [] kept = tt
  uses_kept (r ∷ rows) kept = slots_kept (slots_of r.row) (slot_uses rows) (each (KeepsSlot entries) (slots_of r.row) kept.0) (uses_kept rows kept.1)

  module _ (unique : Unique entries) where
    number_shown : (slot : Option ℕ) (slots : List ℕ) → KeepsSlot entries slot → AreKept entries slots
        → number_in same (map (content_or_none entries) slots) (content_given entries slot) ≡ number_in nat_eq slots slot
    number_shown None slots kept all = refl
    number_shown (Some slot) slots kept all =
        ap (number_in same (map (content_or_none entries) slots)) (content_there entries slot kept) ∙ number_alike entries unique slot slots kept all

    line_shown : (path : Path) (row : Row) (slots : List ℕ) → AllByRecursion (KeepsSlot entries) (slots_of row) → AreKept entries slots
        → line_of (map (content_or_none entries) slots) (shown entries (record { path = path; row = row })) ≡ slot_line slots path row
    line_shown path (Rprim row) slots kept all =
        let first = number_shown row.points slots kept.0 all in
        let second = number_shown row.triangles slots kept.1.0 all in
        let third = number_shown row.colors slots kept.1.1.0 all in
        shape_line_same row.shape path row _ _ _ ∙ (λ i. shape_line row.shape path row (first i) (second i) (third i))
    line_shown path (Camera matrix) slots kept all = refl
    line_shown path (Material color) slots kept all = refl
    line_shown path (Instancer row) slots kept all = refl

    lines_shown : (rows : List PathRow) (slots : List ℕ) → KeepsRows rows → AreKept entries slots
        → flat_map (line_of (map (content_or_none entries) slots)) (map (shown entries) rows) ≡ flat_map (λ (r : PathRow). slot_line slots r.path r.row) rows
    lines_shown [] slots kept all = refl
    lines_shown (r ∷ rows) slots kept all =
        let first = line_shown r.path r.row slots (each (KeepsSlot entries) (slots_of r.row) kept.0) all in
        let others = lines_shown rows slots kept.1 all in
        (λ i. first i ++ others i)

    entries_shown : {S : Type 0} (used : List ℕ) (users : IndexMap ℕ ℕ S) (n : ℕ) (slots : List ℕ) → CountsAll used users → AreKept entries used → AreKept entries slots
        → flat_map (λ (e : ℕ × Buffer). entry_line e.0 e.1 (users_in same (map (content_or_none entries) used) e.1)) (enumerate_from n (map (content_or_none entries) slots))
        ≡ flat_map (slot_entry_line entries users) (enumerate_from n slots)
    entries_shown used users n [] counted all kept = refl
    entries_shown used users n (slot ∷ slots) counted all kept =
        let count = users_alike entries unique slot used kept.0 all ∙ sym (counted.users slot) in
        let others = entries_shown used users (n + 1) slots counted all kept.1 in
        (λ i. entry_line n (content_or_none entries slot) (count i) ++ others i)

    -- what was written by slots is the dump
    pub dump_shown : {S : Type 0} (rows : List PathRow) (users : IndexMap ℕ ℕ S) → All (λ (r : PathRow). All (KeepsSlot entries) (slots_of r.row)) rows → CountsAll (slot_uses rows) users
        → (head_line (length rows) (length users.entries) ++ flat_map (λ (r : PathRow). slot_line (keys users) r.path r.row) rows)
        ++ flat_map (slot_entry_line entries users) (enumerate_from 0 (keys users)) ≡ dump_text (map (shown entries) rows)
    unfolding dump_text
    dump_shown rows users all counted =
        let kept = each (λ (r : PathRow). All (KeepsSlot entries) (slots_of r.row)) rows all in
        let used = slot_uses rows in
        let slots = distinct nat_eq used in
        let used_kept = uses_kept rows kept in
        let slots_kept = distinct_kept entries unique used used_kept in
        let used_is = uses_shown rows kept in
        let contents_are : distinct same (uses (map (shown entries) rows)) ≡ map (content_or_none entries) slots = ap (distinct same) used_is ∙ distinct_alike entries unique used used_kept in
        let row_count = length-map rows (shown entries) in
        let entry_count : length users.entries ≡ length (distinct same (uses (map (shown entries) rows))) =
        sym (length-map users.entries (λ (e : ℕ × ℕ). e.0)) ∙ ap length counted.slots ∙ sym (length-map slots (content_or_none entries)) ∙ sym (ap length contents_are) in
        let lines : flat_map (λ (r : PathRow). slot_line (keys users) r.path r.row) rows ≡ flat_map (line_of (distinct same (uses (map (shown entries) rows)))) (map (shown entries) rows) =
        ap (λ (ks : List ℕ). flat_map (λ (r : PathRow). slot_line ks r.path r.row) rows) counted.slots
        ∙ sym (lines_shown rows slots kept slots_kept)
        ∙ sym (ap (λ (contents : List Buffer). flat_map (line_of contents) (map (shown entries) rows)) contents_are) in
        let entry_lines = ap (λ (ks : List ℕ). flat_map (slot_entry_line entries users) (enumerate_from 0 ks)) counted.slots
        ∙ sym (entries_shown used users 0 slots counted used_kept slots_kept) in
        let by_contents : flat_map (slot_entry_line entries users) (enumerate_from 0 (keys users))
        ≡ flat_map (λ (e : ℕ × Buffer). entry_line e.0 e.1 (users_in same (uses (map (shown entries) rows)) e.1)) (enumerate_from 0 (distinct same (uses (map (shown entries) rows)))) =
        entry_lines ∙ (λ i. flat_map (λ (e : ℕ × Buffer). entry_line e.0 e.1 (users_in same (sym used_is i) e.1)) (enumerate_from 0 (sym contents_are i))) in
        (λ i. (head_line (sym row_count i) (entry_count i) ++ lines i) ++ by_contents i)

    -- the slots that were counted are kept
    pub counted_kept : {S : Type 0} (rows : List PathRow) (users : IndexMap ℕ ℕ S) → All (λ (r : PathRow). All (KeepsSlot entries) (slots_of r.row)) rows → CountsAll (slot_uses rows) users
        → AreKept entries (keys users)
    counted_kept rows users all counted =
        subst (AreKept entries) (sym counted.slots)
        (distinct_kept entries unique (slot_uses rows) (uses_kept rows (each (λ (r : PathRow). All (KeepsSlot entries) (slots_of r.row)) rows all)))
