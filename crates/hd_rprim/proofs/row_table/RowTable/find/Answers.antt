use Rattle.std.proofs.Common.{◌≡◌, List, sym, subst, ◌∙◌}
use Rattle.hd_rprim.specs.declared.row_table.PathRow.{PathRow}
use Rattle.hd_rprim.specs.Tables.{AreRows}
use Rattle.hd_rprim.specs.inner.Places.{IsPlace, IsGap}
use Rattle.hd_rprim.proofs.Sorting.{place_found, no_place_in_gap}
use Rattle.hd_rprim.proofs.row_table.RowTable.find.Goals as goal

pub returns-in-Ok : goal.returns-in-Ok
returns-in-Ok c =
    let same : c.deref.result.now ≡ c.args.self.now = c.deref.ensures.value ∙ c.self.view_is in
    let place : IsPlace c.args.path.now c.args.self.now c.in-Ok.i = subst (λ (rows : List PathRow). IsPlace c.args.path.now rows c.in-Ok.i) same c.in-Ok.ensures.found in
    sym (place_found c.args.path.now c.args.self.now c.in-Ok.i (subst AreRows c.self.view_is c.self.invariant) place)

pub returns-in-Err : goal.returns-in-Err
returns-in-Err c =
    let same : c.deref.result.now ≡ c.args.self.now = c.deref.ensures.value ∙ c.self.view_is in
    let gap : IsGap c.args.path.now c.args.self.now c.in-Err.field-0 = subst (λ (rows : List PathRow). IsGap c.args.path.now rows c.in-Err.field-0) same c.in-Err.ensures.missing in
    sym (no_place_in_gap c.args.path.now c.args.self.now c.in-Err.field-0 gap)
