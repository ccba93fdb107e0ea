-- Rows as they are shown, and what is found among them.
use Rattle.std.proofs.Common.{◌≡◌, ℕ, zero, suc, ◌+◌, ◌<◌, true, false, cond, List, [], ◌∷◌, length, map, drop, Option, Some, None, slice_get, add-one, refl, ap, sym, ◌∙◌, arith}
use Rattle.std.specs.Option.{option_map, option_and_then}
use Rattle.hd_path.specs.Paths.{Path}
use Rattle.hd_registry.specs.Entries.{Entries}
use Rattle.hd_scene.specs.Tells.{is_same_path}
use Rattle.hd_rprim.specs.declared.buffer.Buffer.{Buffer}
use Rattle.hd_rprim.specs.declared.row.InstancerRow.{InstancerRow}
use Rattle.hd_rprim.specs.declared.row.Row.{Row}
use Rattle.hd_rprim.specs.declared.row.Row.TheVariants.{Rprim, Camera, Material, Instancer}
use Rattle.hd_rprim.specs.declared.row_table.PathRow.{PathRow}
use Rattle.hd_rprim.specs.Tables.{place_of, row_of}
use Rattle.hd_rprim.specs.Shown.{shown, without_slots}
use Rattle.hd_draws.specs.Cameras.{camera_place, camera_at}
use Rattle.hd_draws.specs.Placements.{instancer_of, instancer_at}

-- the row of a number that was found

place_after : (o : Option ℕ) (i : ℕ) → Some i ≡ option_map suc o → (j : ℕ) × (o ≡ Some j) × (i ≡ suc j)
place_after None i e = cc
place_after (Some j) i e = (j, refl, cc)

no_place_after : (o : Option ℕ) → None ≡ option_map suc o → None ≡ o
no_place_after None e = refl
no_place_after (Some j) e = cc

pub place_within : (path : Path) (rows : List PathRow) (i : ℕ) → Some i ≡ place_of path rows → i < length rows
place_within path [] i e = cc
place_within path (r ∷ rows) i e =
    elim (is_same_path r.path path) as (λ b. Some i ≡ cond b (Some 0) (option_map suc (place_of path rows)) → i < length (r ∷ rows)) [
      | true ↦ λ h. let first : i ≡ 0 = cc in omega arith
      | false ↦ λ h.
          let after = place_after (place_of path rows) i h in
          let within : after.0 < length rows = place_within path rows after.0 (sym after.1) in
          let same : i ≡ suc after.0 = after.2 in
          omega arith
    ] e

pub row_found : (path : Path) (rows : List PathRow) (i : ℕ) (row : Row) → Some i ≡ place_of path rows → Some row ≡ option_map (λ r. r.row) (slice_get rows i) → row_of path rows ≡ Some row
row_found path [] i row e f = cc
row_found path (r ∷ rows) i row e f =
    elim (is_same_path r.path path) as (λ b. Some i ≡ cond b (Some 0) (option_map suc (place_of path rows)) → cond b (Some r.row) (row_of path rows) ≡ Some row) [
      | true ↦ λ h. let first : i ≡ 0 = cc in sym (rw first at f)
      | false ↦ λ h.
          let after = place_after (place_of path rows) i h in
          row_found path rows after.0 row (sym after.1) (rw after.2 at f)
    ] e

pub no_row_found : (path : Path) (rows : List PathRow) → None ≡ place_of path rows → row_of path rows ≡ None
no_row_found path [] e = refl
no_row_found path (r ∷ rows) e =
    elim (is_same_path r.path path) as (λ b. None ≡ cond b (Some 0) (option_map suc (place_of path rows)) → cond b (Some r.row) (row_of path rows) ≡ None) [
      | true ↦ λ h. cc
      | false ↦ λ h. no_row_found path rows (no_place_after (place_of path rows) h)
    ] e

-- slots are nothing to a camera, and nothing to an instancer

camera_shown : (row : Row) → camera_place (without_slots row) ≡ camera_place row
camera_shown (Rprim row) = refl
camera_shown (Camera matrix) = refl
camera_shown (Material color) = refl
camera_shown (Instancer row) = refl

pub camera_of_row : (entries : Entries Buffer) (path : Path) (rows : List PathRow) → camera_at (map (shown entries) rows) path ≡ option_and_then camera_place (row_of path rows)
camera_of_row entries path [] = refl
camera_of_row entries path (r ∷ rows) =
    elim (is_same_path r.path path) as (λ b. cond b (camera_place (without_slots r.row)) (camera_at (map (shown entries) rows) path) ≡ option_and_then camera_place (cond b (Some r.row) (row_of path rows))) [
      | true ↦ camera_shown r.row
      | false ↦ camera_of_row entries path rows
    ]

instancer_shown : (row : Row) → instancer_of (without_slots row) ≡ instancer_of row
instancer_shown (Rprim row) = refl
instancer_shown (Camera matrix) = refl
instancer_shown (Material color) = refl
instancer_shown (Instancer row) = refl

pub no_instancer : (row : Row) → ((x : InstancerRow) → row ≡ Instancer x → ⊥) → instancer_of row ≡ None
no_instancer (Rprim row) other = refl
no_instancer (Camera matrix) other = refl
no_instancer (Material color) other = refl
no_instancer (Instancer row) other = absurd (other row refl)

pub instancer_of_row : (entries : Entries Buffer) (path : Path) (rows : List PathRow) → instancer_at (map (shown entries) rows) path ≡ option_and_then instancer_of (row_of path rows)
instancer_of_row entries path [] = refl
instancer_of_row entries path (r ∷ rows) =
    elim (is_same_path r.path path) as (λ b. cond b (instancer_of (without_slots r.row)) (instancer_at (map (shown entries) rows) path) ≡ option_and_then instancer_of (cond b (Some r.row) (row_of path rows))) [
      | true ↦ instancer_shown r.row
      | false ↦ instancer_of_row entries path rows
    ]

-- the row of this number, and those after it
pub shown_step : (entries : Entries Buffer) (rows : List PathRow) (i : ℕ) (path : Path) (row : Row) → Some path ≡ option_map (λ r. r.path) (slice_get rows i) → Some row ≡ option_map (λ r. r.row) (slice_get rows i)
    → drop i (map (shown entries) rows) ≡ shown entries (record { path = path; row = row }) ∷ drop (i + 1) (map (shown entries) rows)
shown_step entries [] i path row e f = cc
shown_step entries (r ∷ rows) zero path row e f =
    let same_path : r.path ≡ path = cc in
    let same_row : r.row ≡ row = cc in
    ap (λ (p : Path). shown entries (record { path = p; row = r.row }) ∷ map (shown entries) rows) same_path
    ∙ ap (λ (w : Row). shown entries (record { path = path; row = w }) ∷ map (shown entries) rows) same_row
shown_step entries (r ∷ rows) (suc i) path row e f = rw add-one (rw add-one at (shown_step entries rows i path row e f))
