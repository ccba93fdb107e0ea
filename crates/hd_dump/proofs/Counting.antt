-- Slots as they are counted.
use Rattle.std.proofs.Common.{◌≡◌, ℕ, ◌+◌, ◌*◌, ◌≤◌, Bool, true, false, cond, List, [], ◌∷◌, ◌++◌, length, drop, refl, ap, ◌∙◌, nat_eq, if◌then◌else◌, ◌||◌, ⊎_elim, arith, Option, Some, None, slice_get, unwrap_or, count_by}
use Rattle.std.specs.List.{list_any}
use Rattle.std.specs.Map.{keys_of}
use Rattle.std.specs.Option.{option_map}
use Rattle.std.proofs.lemmas.Bool.{cases_eq}
use Rattle.std.proofs.lemmas.Bool.Decides.{nat_tests}
use Rattle.std.proofs.lemmas.List.Sums.{sum_by-append, count_by-le-length}
use Rattle.indexmap.specs.IndexMap.{insert_entry}
use Rattle.hd_rprim.specs.Shown.{slots_of}
use Rattle.hd_rprim.specs.declared.row.Row.{Row}
use Rattle.hd_rprim.specs.declared.row.Row.TheVariants.{Rprim, Camera, Material, Instancer}
use Rattle.hd_rprim.specs.declared.row_table.PathRow.{PathRow}
use Rattle.hd_dump.specs.Contents.{with_item}
use Rattle.hd_dump.specs.inner.Numbering.{slots_in, slot_uses}
use Rattle.hd_dump.proofs.Lists.{rest_at}

cons_if : (b : Bool) (x : ℕ) (xs ys : List ℕ) → x ∷ (if b then xs else ys) ≡ (if b then x ∷ xs else x ∷ ys)
cons_if true x xs ys = refl
cons_if false x xs ys = refl

-- the slots of a map into which a slot was put
pub slots_inserted : (entries : List (ℕ × ℕ)) (slot users : ℕ) → keys_of (insert_entry nat_eq entries slot users) ≡ with_item nat_eq (keys_of entries) slot
slots_inserted [] slot users = refl
slots_inserted (e ∷ es) slot users =
    elim (nat_eq slot e.0) as (λ b. keys_of (if b then (e.0, users) ∷ es else e ∷ insert_entry nat_eq es slot users)
    ≡ (if b || list_any (nat_eq slot) (keys_of es) then e.0 ∷ keys_of es else e.0 ∷ keys_of es ++ slot ∷ [])) [
      | true ↦ refl
      | false ↦ ap (λ (xs : List ℕ). e.0 ∷ xs) (slots_inserted es slot users) ∙ cons_if (list_any (nat_eq slot) (keys_of es)) e.0 (keys_of es) (keys_of es ++ slot ∷ [])
    ]

-- the uses of a slot after a use was counted
pub uses_counted : (uses : ℕ → Option ℕ) (new : Option ℕ) (slot users other : ℕ)
    → new ≡ cond (nat_eq slot other) (Some users) (uses other) → users ≡ unwrap_or (uses slot) 0 + 1
    → unwrap_or new 0 ≡ unwrap_or (uses other) 0 + count_by (nat_eq other) (slot ∷ [])
uses_counted uses new slot users other is more =
    ⊎_elim (λ same. grind (arith, nat_tests)) (λ apart. grind (arith, nat_tests)) (cases_eq slot other)

-- what is left to be counted at a row
pub uses_left : (rows : List PathRow) (i : ℕ) (row : Row) → Some row ≡ option_map (λ (r : PathRow). r.row) (slice_get rows i)
    → slot_uses (drop i rows) ≡ slots_in (slots_of row) ++ slot_uses (drop (i + 1) rows)
uses_left rows i row is = by (slice_get rows i) refl is
  where
    by : (found : Option PathRow) → slice_get rows i ≡ found → Some row ≡ option_map (λ (r : PathRow). r.row) found
        → slot_uses (drop i rows) ≡ slots_in (slots_of row) ++ slot_uses (drop (i + 1) rows)
    by None there same = absurd (cc)
    by (Some r) there same =
        let its_row : r.row ≡ row = cc in
        ap slot_uses (rest_at rows i r there) ∙ ap (λ (x : Row). slots_in (slots_of x) ++ slot_uses (drop (i + 1) rows)) its_row

few_slots : (slots : List (Option ℕ)) → length (slots_in slots) ≤ length slots
few_slots [] = omega arith
few_slots (None ∷ slots) =
    let others = few_slots slots in
    omega arith
few_slots (Some slot ∷ slots) =
    let others = few_slots slots in
    omega arith

slots_of_row : (row : Row) → length (slots_in (slots_of row)) ≤ 3
slots_of_row (Rprim row) = few_slots (slots_of (Rprim row))
slots_of_row (Camera matrix) = omega arith
slots_of_row (Material color) = omega arith
slots_of_row (Instancer row) = omega arith

-- a slot has at most three uses in a row
pub uses_bounded : (slot : ℕ) (rows : List PathRow) → count_by (nat_eq slot) (slot_uses rows) ≤ 3 * length rows
uses_bounded slot [] = omega arith
uses_bounded slot (r ∷ rows) =
    let first = count_by-le-length (nat_eq slot) (slots_in (slots_of r.row)) in
    let few = slots_of_row r.row in
    let others = uses_bounded slot rows in
    let both = sum_by-append (λ x. cond (nat_eq slot x) 1 0) (slots_in (slots_of r.row)) (slot_uses rows) in
    omega arith
