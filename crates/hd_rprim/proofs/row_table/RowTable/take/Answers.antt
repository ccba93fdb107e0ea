use Rattle.std.proofs.Common.{◌≡◌, List, Some, sym, ap, subst, ◌∙◌}
use Rattle.hd_rprim.specs.declared.row_table.PathRow.{PathRow}
use Rattle.hd_rprim.specs.Tables.{AreRows, rows_without, row_of}
use Rattle.hd_rprim.specs.inner.Places.{IsPlace, IsGap}
use Rattle.hd_rprim.proofs.Sorting.{place_removed, place_read, rows_left, no_row_in_gap, all_left_in_gap}
use Rattle.hd_rprim.proofs.row_table.RowTable.take.Goals as goal

-- where the path is there, its row is left out
pub invariant_of-self : goal.invariant_of-self
invariant_of-self c =
    let rows = c.self.inside.rows.items in
    let place : IsPlace c.args.path.now rows c.in-Ok.i = subst (λ (rs : List PathRow). IsPlace c.args.path.now rs c.in-Ok.i) c.deref.ensures.value c.in-Ok.ensures.found in
    let new : c.remove.new.self.items ≡ rows_without c.args.path.now rows =
    c.remove.ensures.items ∙ place_removed c.args.path.now rows c.in-Ok.i c.self.invariant place
    in
    subst AreRows (sym new) (rows_left c.args.path.now rows c.self.invariant)

pub returns-in-Ok-clause-taken : goal.returns-in-Ok-clause-taken
returns-in-Ok-clause-taken c =
    let rows = c.self.inside.rows.items in
    let place : IsPlace c.args.path.now rows c.in-Ok.i = subst (λ (rs : List PathRow). IsPlace c.args.path.now rs c.in-Ok.i) c.deref.ensures.value c.in-Ok.ensures.found in
    ap (λ r. Some r) (c.into_row.ensures ∙ ap (λ (r : PathRow). r.row) c.remove.ensures.value)
    ∙ sym (place_read c.args.path.now rows c.in-Ok.i c.remove.result c.self.invariant place)
    ∙ ap (row_of c.args.path.now) c.self.view_is

pub returns-in-Ok-clause-others : goal.returns-in-Ok-clause-others
returns-in-Ok-clause-others c =
    let rows = c.self.inside.rows.items in
    let place : IsPlace c.args.path.now rows c.in-Ok.i = subst (λ (rs : List PathRow). IsPlace c.args.path.now rs c.in-Ok.i) c.deref.ensures.value c.in-Ok.ensures.found in
    c.remove.ensures.items
    ∙ place_removed c.args.path.now rows c.in-Ok.i c.self.invariant place
    ∙ ap (rows_without c.args.path.now) c.self.view_is

-- where it is not, no row has it
pub returns-in-Err-clause-taken : goal.returns-in-Err-clause-taken
returns-in-Err-clause-taken c =
    let same : c.deref.result.now ≡ c.args.self.now = c.deref.ensures.value ∙ c.self.view_is in
    let gap : IsGap c.args.path.now c.args.self.now c.in-Err.field-0 = subst (λ (rows : List PathRow). IsGap c.args.path.now rows c.in-Err.field-0) same c.in-Err.ensures.missing in
    sym (no_row_in_gap c.args.path.now c.args.self.now c.in-Err.field-0 gap)

pub returns-in-Err-clause-others : goal.returns-in-Err-clause-others
returns-in-Err-clause-others c =
    let same : c.deref.result.now ≡ c.args.self.now = c.deref.ensures.value ∙ c.self.view_is in
    let gap : IsGap c.args.path.now c.args.self.now c.in-Err.field-0 = subst (λ (rows : List PathRow). IsGap c.args.path.now rows c.in-Err.field-0) same c.in-Err.ensures.missing in
    sym (all_left_in_gap c.args.path.now c.args.self.now c.in-Err.field-0 gap)
