use Rattle.std.proofs.Common.{◌≡◌, List, set, sym, ap, subst, ◌∙◌}
use Rattle.std.specs.List.{insert}
use Rattle.hd_rprim.specs.declared.row_table.PathRow.{PathRow}
use Rattle.hd_rprim.specs.Tables.{AreRows, rows_with}
use Rattle.hd_rprim.specs.inner.Places.{IsPlace, IsGap}
use Rattle.hd_rprim.proofs.Sorting.{place_rewritten, insert_gap, placed_rows}
use Rattle.hd_rprim.proofs.row_table.RowTable.put.Goals as goal

-- where the path is there, its row is written over
pub invariant_of-self : goal.invariant_of-self
invariant_of-self c =
    let rows = c.self.inside.rows.items in
    let place : IsPlace c.args.path rows c.in-Ok.i = subst (λ (rs : List PathRow). IsPlace c.args.path rs c.in-Ok.i) c.deref.ensures.value c.in-Ok.ensures.found in
    let new : set rows c.in-Ok.i c.in_ok-new.field-0.value ≡ rows_with c.args.path c.args.row rows =
    ap (set rows c.in-Ok.i) c.in_ok-new.ensures.ok ∙ place_rewritten c.args.path c.args.row rows c.in-Ok.i c.self.invariant place
    in
    subst AreRows (sym new) (placed_rows c.args.path c.args.row rows c.self.invariant)

pub returns-in-Ok-clause-ok : goal.returns-in-Ok-clause-ok
returns-in-Ok-clause-ok c =
    let rows = c.self.inside.rows.items in
    let place : IsPlace c.args.path rows c.in-Ok.i = subst (λ (rs : List PathRow). IsPlace c.args.path rs c.in-Ok.i) c.deref.ensures.value c.in-Ok.ensures.found in
    ap (set rows c.in-Ok.i) c.in_ok-new.ensures.ok
    ∙ place_rewritten c.args.path c.args.row rows c.in-Ok.i c.self.invariant place
    ∙ ap (rows_with c.args.path c.args.row) c.self.view_is

-- where it is not, a row is put in its gap
pub invariant_of-self-in_ok-insert-in-Err : goal.invariant_of-self-in_ok-insert-in-Err
invariant_of-self-in_ok-insert-in-Err c =
    let rows = c.self.inside.rows.items in
    let gap : IsGap c.args.path rows c.in-Err.i = subst (λ (rs : List PathRow). IsGap c.args.path rs c.in-Err.i) c.deref.ensures.value c.in-Err.ensures.missing in
    let placed : insert rows c.in-Err.i c.in_ok-new.field-0.value ≡ rows_with c.args.path c.args.row rows =
    ap (insert rows c.in-Err.i) c.in_ok-new.ensures.ok ∙ insert_gap c.args.path c.args.row rows c.in-Err.i gap
    in
    subst AreRows (sym (c.in_ok-insert-in-Err.ensures.items ∙ placed)) (placed_rows c.args.path c.args.row rows c.self.invariant)

pub returns-in_ok-insert-in-Err-clause-ok : goal.returns-in_ok-insert-in-Err-clause-ok
returns-in_ok-insert-in-Err-clause-ok c =
    let rows = c.self.inside.rows.items in
    let gap : IsGap c.args.path rows c.in-Err.i = subst (λ (rs : List PathRow). IsGap c.args.path rs c.in-Err.i) c.deref.ensures.value c.in-Err.ensures.missing in
    c.in_ok-insert-in-Err.ensures.items
    ∙ ap (insert rows c.in-Err.i) c.in_ok-new.ensures.ok
    ∙ insert_gap c.args.path c.args.row rows c.in-Err.i gap
    ∙ ap (rows_with c.args.path c.args.row) c.self.view_is
