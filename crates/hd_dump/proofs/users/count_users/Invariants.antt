use Rattle.std.proofs.Common.{◌≡◌, ℕ, ◌+◌, nat_eq, drop, fold, count_by}
use Rattle.indexmap.specs.IndexMap.{keys}
use Rattle.hd_dump.specs.Contents.{with_item, distinct}
use Rattle.hd_dump.specs.inner.Numbering.{slot_uses, uses_at}
use Rattle.hd_dump.proofs.users.count_users.Given as goal

abbrev pub invariant-rows : goal.invariant-rows
invariant-rows l =
    (fold (with_item nat_eq) (keys l.users) (slot_uses (drop l.i l.rows)) ≡ distinct nat_eq (slot_uses l.rows))
    × ((slot : ℕ) → uses_at l.users slot + count_by (nat_eq slot) (slot_uses (drop l.i l.rows)) ≡ count_by (nat_eq slot) (slot_uses l.rows))
