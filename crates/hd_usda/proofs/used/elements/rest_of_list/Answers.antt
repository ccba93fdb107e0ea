use Rattle.std.proofs.lemmas.Result.{err_from_is_err_and}
use Rattle.hd_usda.proofs.Collecting.{collects_end, collects_fails}
use Rattle.hd_usda.proofs.used.elements.rest_of_list.Goals as goal

pub returns-in_err-next_element-clause-gives : goal.returns-in_err-next_element-clause-gives
returns-in_err-next_element-clause-gives g c =
    let p = err_from_is_err_and c.from_residual.result c.from_residual.ensures.1 in
    rw (p.1, p.2) (collects_fails _ c.rest.invariant c.passes.ensures.found c.passes.ensures.rest c.rest-test.true c.in_err-next_element.ensures.gives)

pub returns-clause-gives : goal.returns-clause-gives
returns-clause-gives g c = collects_end c.rest.invariant c.passes.ensures.found c.passes.ensures.rest c.rest-test.false
