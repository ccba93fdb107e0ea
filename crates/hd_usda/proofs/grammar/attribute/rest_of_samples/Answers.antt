use Rattle.std.proofs.lemmas.Result.{err_from_is_err_and}
use Rattle.hd_usda.proofs.Passing.{leads_end, leads_fails}
use Rattle.hd_usda.proofs.grammar.attribute.rest_of_samples.Goals as goal

pub returns-in_err-next_sample-clause-gives : goal.returns-in_err-next_sample-clause-gives
returns-in_err-next_sample-clause-gives c =
    let p = err_from_is_err_and c.from_residual.result c.from_residual.ensures.1 in
    rw (p.1, p.2) (leads_fails _ c.rest.invariant c.passes.ensures.found c.passes.ensures.rest c.rest-test.true c.in_err-next_sample.ensures.gives)

pub returns-clause-gives : goal.returns-clause-gives
returns-clause-gives c = leads_end c.rest.invariant c.passes.ensures.found c.passes.ensures.rest c.rest-test.false
