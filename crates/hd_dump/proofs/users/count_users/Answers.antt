use Rattle.std.proofs.Common.{◌∙◌, ◌+◌, ap, sym, cond, drop, nat_eq, count_by, fold, arith}
use Rattle.std.proofs.lemmas.List.Sums.{fold-append, sum_by-append}
use Rattle.indexmap.specs.IndexMap.{keys}
use Rattle.hd_rprim.specs.Shown.{slots_of}
use Rattle.hd_dump.specs.Contents.{with_item}
use Rattle.hd_dump.specs.inner.Numbering.{slots_in, slot_uses}
use Rattle.hd_dump.proofs.Counting.{uses_left, uses_bounded}
use Rattle.hd_dump.proofs.users.count_users.Goals as goal

pub count_row-requires : goal.count_row-requires
count_row-requires c = λ slot.
    let left = c.rows.invariant.1 slot in
    let bound = uses_bounded slot c.args.rows.now in
    let size = c.len-i-end.ensures in
    let fits = c.len-i-end.type_inv in
    omega arith

pub rows-preserved : goal.rows-preserved
rows-preserved c =
    let used = slots_in (slots_of c.row_at.result.now) in
    let others = slot_uses (drop (c.rows.i + 1) c.args.rows.now) in
    let left = uses_left c.args.rows.now c.rows.i c.row_at.result.now c.row_at.ensures in
    let counted = c.in_ok-count_row.ensures in (
      ap (λ slots. fold (with_item nat_eq) slots others) counted.slots
          ∙ sym (fold-append (with_item nat_eq) (keys c.rows.users) used others)
          ∙ ap (fold (with_item nat_eq) (keys c.rows.users)) (sym left)
          ∙ c.rows.invariant.0,
      λ slot.
          let more = counted.users slot in
          let both = sum_by-append (λ x. cond (nat_eq slot x) 1 0) used others in
          let all = c.rows.invariant.1 slot in
          let same = ap (count_by (nat_eq slot)) left in
          omega arith,
    )
