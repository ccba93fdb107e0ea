-- Uses of a slot are uses of its content.
use Rattle.std.proofs.Common.{◌≡◌, ℕ, zero, suc, ◌+◌, ◌≤◌, Bool, true, false, cond, ◌==◌, List, [], ◌∷◌, map, Option, Some, None, refl, sym, ◌∙◌, ap, subst, arith}
use Rattle.std.proofs.lemmas.Bool.{eqb-true, eqb-false}
use Rattle.hd_registry.specs.Entries.{Entries, content_at, Unique}
use Rattle.hd_sync.specs.Syncing.{uses, uses_of, uses_all, content_given, contents_given}
use Rattle.hd_rprim.specs.contracts.buffer.BufferPartialEq.TheImpl as buffers
use Rattle.hd_rprim.specs.declared.buffer.Buffer.{Buffer}
use Rattle.hd_rprim.specs.declared.row_table.PathRow.{PathRow}
use Rattle.hd_rprim.specs.inner.Equality.{same_buffer, buffer_itself}
use Rattle.hd_rprim.specs.Shown.{ShownRow, slots_of, shown}
use Rattle.hd_scene.specs.Scenes.{Scene}
use Rattle.hd_rprim.specs.PrimRows.{rows_of}
use Rattle.hd_index.specs.Index.{is_buffer, uses_among, uses_in, Shows, HasEntries}
use Rattle.hd_index.specs.Laws.{UsersAreUses, BuffersAreKept}

module _ (es : Entries Buffer) (unique : Unique es) (slot : ℕ) (buffer : Buffer) (has : content_at es slot ≡ Some buffer) where
  -- a slot other than that of the buffer has another content
  other_content : (t : ℕ) → (t == slot) ≡ false → (o : Option Buffer) → content_at es t ≡ o → is_buffer buffer o ≡ false
  other_content t differs None e = refl
  other_content t differs (Some content) e = by ((buffers.ghosts).eq content buffer) refl
    where
      by : (b : Bool) → (buffers.ghosts).eq content buffer ≡ b → (buffers.ghosts).eq content buffer ≡ false
      by true same = absurd (eqb-false t slot differs (unique t slot buffer (e ∙ ap (λ (x : Buffer). Some x) (same_buffer content buffer same)) has))
      by false same = same

  one_use : (given : Option ℕ) → uses given slot ≡ cond (is_buffer buffer (content_given es given)) 1 0
  one_use None = refl
  one_use (Some t) = by (t == slot) refl
    where
      by : (b : Bool) → (t == slot) ≡ b → let n : ℕ = cond b 1 0 in n ≡ cond (is_buffer buffer (content_at es t)) 1 0
      by true e =
          let content : content_at es t ≡ Some buffer = ap (content_at es) (eqb-true t slot e) ∙ has in
          sym (ap (λ o. cond (is_buffer buffer o) 1 0) content ∙ ap (λ b. cond b 1 0) (buffer_itself buffer))
      by false e = sym (ap (λ b. cond b 1 0) (other_content t e (content_at es t) refl))

  uses_by_slots : (given : List (Option ℕ)) → uses_of given slot ≡ uses_among buffer (contents_given es given)
  uses_by_slots [] = refl
  uses_by_slots (first ∷ given) =
      let one : uses first slot ≡ cond (is_buffer buffer (content_given es first)) 1 0 = one_use first in
      let others : uses_of given slot ≡ uses_among buffer (contents_given es given) = uses_by_slots given in
      omega arith

  uses_by_rows : (table : List PathRow) → uses_all (map (λ r. slots_of r.row) table) slot ≡ uses_in buffer (map (shown es) table)
  uses_by_rows [] = refl
  uses_by_rows (r ∷ table) =
      let one : uses_of (slots_of r.row) slot ≡ uses_among buffer (contents_given es (slots_of r.row)) = uses_by_slots (slots_of r.row) in
      let others : uses_all (map (λ r. slots_of r.row) table) slot ≡ uses_in buffer (map (shown es) table) = uses_by_rows table in
      omega arith

pub users_are_uses : UsersAreUses
users_are_uses scene table es shows unique slot buffer has = shows.users slot ∙ uses_by_rows es unique slot buffer has table ∙ ap (uses_in buffer) shows.rows

abbrev IsKeptAt : Entries Buffer → Buffer → Type 0
IsKeptAt es buffer = (slot : ℕ) × (content_at es slot ≡ Some buffer)

module _ (es : Entries Buffer) (buffer : Buffer) where
  kept_at : (given : Option ℕ) (o : Option Buffer) → content_given es given ≡ o → is_buffer buffer o ≡ true → IsKeptAt es buffer
  kept_at None None e same = absurd (cc)
  kept_at (Some slot) None e same = absurd (cc)
  kept_at None (Some content) e same = absurd (cc)
  kept_at (Some slot) (Some content) e same = (slot, e ∙ ap (λ (x : Buffer). Some x) (same_buffer content buffer same))

  kept_among : (given : List (Option ℕ)) → 1 ≤ uses_among buffer (contents_given es given) → IsKeptAt es buffer
  kept_among [] used = absurd (omega arith)
  kept_among (first ∷ given) used = by (kept_at first (content_given es first) refl) (kept_among given) (is_buffer buffer (content_given es first)) refl used
    where
      by : (is_buffer buffer (content_given es first) ≡ true → IsKeptAt es buffer) → (1 ≤ uses_among buffer (contents_given es given) → IsKeptAt es buffer)
          → (b : Bool) → is_buffer buffer (content_given es first) ≡ b → 1 ≤ cond b 1 0 + uses_among buffer (contents_given es given) → IsKeptAt es buffer
      by here there true same used = here same
      by here there false same used = there (omega arith)

  kept_in : (table : List PathRow) → 1 ≤ uses_in buffer (map (shown es) table) → IsKeptAt es buffer
  kept_in [] used = absurd (omega arith)
  kept_in (r ∷ table) used = by (kept_among (slots_of r.row)) (kept_in table) (uses_among buffer (contents_given es (slots_of r.row))) refl used
    where
      by : (1 ≤ uses_among buffer (contents_given es (slots_of r.row)) → IsKeptAt es buffer) → (1 ≤ uses_in buffer (map (shown es) table) → IsKeptAt es buffer)
          → (n : ℕ) → uses_among buffer (contents_given es (slots_of r.row)) ≡ n → 1 ≤ n + uses_in buffer (map (shown es) table) → IsKeptAt es buffer
      by here there zero none used = there (omega arith)
      by here there (suc n) some used = here (omega arith)

pub buffers_are_kept : BuffersAreKept
buffers_are_kept scene table es shows buffer used = kept_in es buffer table (subst (λ (rows : List ShownRow). 1 ≤ uses_in buffer rows) (sym shows.rows) used)

pub has_entries : (scene : Scene) (table : List PathRow) (es : Entries Buffer) → Shows scene table es → Unique es → HasEntries (rows_of scene) es
has_entries scene table es shows unique = record {
  unique = unique;
  users = users_are_uses scene table es shows unique;
  kept = buffers_are_kept scene table es shows;
  used = shows.used;
}
