use Rattle.std.proofs.Common.{◌≡◌, ◌<◌, List, length, get_or, set, sym, ap, subst, ◌∙◌}
use Rattle.hd_rprim.specs.declared.row_table.PathRow.{PathRow}
use Rattle.hd_rprim.specs.Tables.{AreRows, with_row_at}
use Rattle.hd_rprim.proofs.Sorting.{set_row, rows_with_one_set}
use Rattle.hd_rprim.proofs.row_table.RowTable.set.Goals as goal

-- the row is set in the place of one whose path stays
pub invariant_of-self : goal.invariant_of-self
invariant_of-self c =
    let rows = c.self.inside.rows.items in
    let d = c.index_mut-kept.result.now in
    let in_range : c.args.i < length rows = subst (λ (rs : List PathRow). c.args.i < length rs) (sym c.self.view_is) c.requires in
    let old : c.deref_mut.result.now ≡ get_or rows c.args.i d = c.deref_mut.ensures.value ∙ c.kept.view_is ∙ c.index_mut-kept.ensures.value in
    let new : set rows c.args.i (record { path = c.deref_mut.result.now.path; row = c.args.row }) ≡ with_row_at c.args.i c.args.row rows =
    ap (λ (r : PathRow). set rows c.args.i (record { path = r.path; row = c.args.row })) old ∙ set_row rows c.args.i d c.args.row in_range
    in
    subst AreRows (sym new) (rows_with_one_set rows c.args.i c.args.row c.self.invariant)

pub returns : goal.returns
returns c =
    let rows = c.self.inside.rows.items in
    let d = c.index_mut-kept.result.now in
    let in_range : c.args.i < length rows = subst (λ (rs : List PathRow). c.args.i < length rs) (sym c.self.view_is) c.requires in
    let old : c.deref_mut.result.now ≡ get_or rows c.args.i d = c.deref_mut.ensures.value ∙ c.kept.view_is ∙ c.index_mut-kept.ensures.value in
    ap (λ (r : PathRow). set rows c.args.i (record { path = r.path; row = c.args.row })) old
    ∙ set_row rows c.args.i d c.args.row in_range
    ∙ ap (with_row_at c.args.i c.args.row) c.self.view_is
