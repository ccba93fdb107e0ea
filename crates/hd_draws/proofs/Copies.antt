-- Copies of targets that are marked.
use Rattle.std.proofs.Common.{◌≡◌, ℕ, zero, suc, ℤ, pos, int_lt, nat_abs, Bool, true, false, cond, List, [], ◌∷◌, map, get_or, drop, length, ◌≤◌, ◌==◌, ◌++◌, slice_get, Option, Some, None, refl, ap, sym, ◌∙◌, append-nil, arith}
use Rattle.std.specs.List.{filter_map, flat_map, zip, cons_option}
use Rattle.std.specs.Option.{option_map_or}
use Rattle.std.proofs.lemmas.Bool.Decides.{nat_tests}
use Rattle.std.proofs.lemmas.List.{at_drop_all}
use Rattle.hd_num.specs.declared.vector.Vec3.{Vec3}
use Rattle.hd_num.specs.Matrices.{Rows}
use Rattle.hd_path.specs.Paths.{Path, is_prefix}
use Rattle.hd_rprim.specs.declared.row.InstancerRow.{InstancerRow}
use Rattle.hd_rprim.specs.declared.row.RprimRow.{RprimRow}
use Rattle.hd_rprim.specs.Shown.{ShownRow}
use Rattle.hd_draws.specs.Placements.{instancer_at, places_copies, is_copied, copy_matrix, copy_at, copies_by, listed_once, placements}
use Rattle.hd_draws.specs.inner.Targets.{is_marked, marked_copy}

mark_of : {X : Type 0} (test : X → Bool) (xs : List X) (k : ℕ) → get_or (map test xs) k false ≡ option_map_or test (slice_get xs k) false
mark_of test [] k = refl
mark_of test (x ∷ xs) zero = refl
mark_of test (x ∷ xs) (suc k) = mark_of test xs k

-- the mark of a target says whether it has the prim in it
mark_is : (path : Path) (targets : List Path) (number : ℤ) → is_marked (map (λ target. is_prefix target path) targets) number ≡ is_copied path targets number
mark_is path targets number =
    elim (int_lt number (pos 0)) as (λ b. cond b false (get_or (map (λ target. is_prefix target path) targets) (nat_abs number) false) ≡ option_map_or (λ target. is_prefix target path) (cond b None (slice_get targets (nat_abs number))) false) [
      | true ↦ refl
      | false ↦ mark_of (λ target. is_prefix target path) targets (nat_abs number)
    ]

-- so the copies of the marked targets are those that have the prim in them
marked_copies : (path : Path) (own : Option Rows) (instancer : InstancerRow) (places : List (Vec3 × ℤ))
    → filter_map (marked_copy (map (λ target. is_prefix target path) instancer.targets) own instancer.matrix) places ≡ filter_map (copy_at path own instancer) places
marked_copies path own instancer [] = refl
marked_copies path own instancer (place ∷ places) =
    ap (λ b. cons_option (cond b (copy_matrix own place.0 instancer.matrix) None) (filter_map (marked_copy (map (λ target. is_prefix target path) instancer.targets) own instancer.matrix) places)) (mark_is path instancer.targets place.1)
    ∙ ap (cons_option (copy_at path own instancer place)) (marked_copies path own instancer places)

pub copies_of_marked : (path : Path) (own : Option Rows) (instancer : InstancerRow) (marks : List Bool) → places_copies instancer ≡ true → marks ≡ map (λ target. is_prefix target path) instancer.targets
    → filter_map (marked_copy marks own instancer.matrix) (zip instancer.positions instancer.proto_indices) ≡ copies_by path own (Some instancer)
copies_of_marked path own instancer marks places marked =
    let at = zip instancer.positions instancer.proto_indices in
    ap (λ ms. filter_map (marked_copy ms own instancer.matrix) at) marked
    ∙ marked_copies path own instancer at
    ∙ sym (ap (λ b. cond b (filter_map (copy_at path own instancer) at) []) places)

not_none : {X : Type 0} (xs : List X) → (xs ≡ [] → ⊥) → (length xs == 0) ≡ false
not_none [] filled = absurd (filled refl)
not_none (x ∷ xs) filled = grind (arith, nat_tests)

-- a row with instancers has the copies by all of them
pub all_copies : (rows : List ShownRow) (path : Path) (row : RprimRow) (made : List Rows) (i : ℕ) → (row.instanced_by ≡ [] → ⊥) → length row.instanced_by ≤ i
    → made ++ flat_map (λ instancer. copies_by path row.matrix (instancer_at rows instancer)) (drop i row.instanced_by) ≡ flat_map (λ instancer. copies_by path row.matrix (instancer_at rows instancer)) row.instanced_by
    → made ≡ placements rows path row
all_copies rows path row made i filled end is =
    let by = λ (instancer : Path). copies_by path row.matrix (instancer_at rows instancer) in
    sym (append-nil made)
    ∙ sym (at_drop_all (λ ys. made ++ flat_map by ys) row.instanced_by i end)
    ∙ is
    ∙ sym (ap (λ b. cond b (listed_once row.matrix) (flat_map by row.instanced_by)) (not_none row.instanced_by filled))
