use Rattle.std.proofs.lemmas.Result.{err_from_is_err_and}
use Rattle.hd_usda.proofs.Collecting.{collects_end, collects_fails}
use Rattle.hd_usda.proofs.grammar.prims.root_items.Goals as goal

pub returns-in_err-root_item : goal.returns-in_err-root_item
returns-in_err-root_item c =
    let p = err_from_is_err_and c.from_residual.result c.from_residual.ensures.1 in
    rw (p.1, p.2) (collects_fails _ c.rest.invariant c.ends.ensures.found c.ends.ensures.rest c.rest-test.true c.in_err-root_item.ensures.gives)

pub returns : goal.returns
returns c = collects_end c.rest.invariant c.ends.ensures.found c.ends.ensures.rest c.rest-test.false
