use Rattle.std.proofs.Common.{arith}
use Rattle.std.proofs.lemmas.Result.{err_from_is_err_and}
use Rattle.hd_usda.specs.inner.PrimViews.{scope_view, prim_header_view}
use Rattle.hd_usda.proofs.PrimSteps.{prim_is, prim_fails}
use Rattle.hd_usda.proofs.Collecting.{collects_end, collects_fails}
use Rattle.hd_usda.proofs.grammar.prims.+items.Goals as goal

pub items-returns-in_err-item-clause-gives : goal.items-returns-in_err-item-clause-gives
items-returns-in_err-item-clause-gives t c =
    let p = err_from_is_err_and c.from_residual.result c.from_residual.ensures.1 in
    rw (p.1, p.2) (collects_fails _ c.rest.invariant c.passes.ensures.found c.passes.ensures.rest c.rest-test.true c.in_err-item.ensures.gives)

pub items-returns-clause-gives : goal.items-returns-clause-gives
items-returns-clause-gives t c = collects_end c.rest.invariant c.passes.ensures.found c.passes.ensures.rest c.rest-test.false

pub one_prim-returns-in_err-inner-clause-gives : goal.one_prim-returns-in_err-inner-clause-gives
one_prim-returns-in_err-inner-clause-gives t c =
    let p = err_from_is_err_and c.from_residual-in_err-inner.result c.from_residual-in_err-inner.ensures.1 in
    rw (p.1, p.2) (prim_fails c.in_err-inner.field-0.0 c.args.room c.args.path.now c.in_ok-own.own c.args.counts (scope_view c.args.scope.now c.args.builder.now) c.args.cursor.now c.prim_header.new.cursor (prim_header_view c.in_ok-header.header c.prim_header.new.names)
    (omega arith) c.in_ok-header.ensures.gives c.in_ok-own.ensures.longer c.in_err-inner.ensures.gives)

pub one_prim-returns-clause-gives : goal.one_prim-returns-clause-gives
one_prim-returns-clause-gives t c =
    let h = prim_header_view c.in_ok-header.header c.prim_header.new.names in
    let s = scope_view c.args.scope.now c.args.builder.now in
    let b = scope_view c.in_ok-inner.inner c.body.new.builder in
    rw c.in_ok-keep_prim.ensures.kept (prim_is c.args.room c.args.path.now c.in_ok-own.own c.args.counts s b c.args.cursor.now c.prim_header.new.cursor c.body.new.cursor h
    (omega arith) c.in_ok-header.ensures.gives c.in_ok-own.ensures.longer c.in_ok-inner.ensures.gives)
