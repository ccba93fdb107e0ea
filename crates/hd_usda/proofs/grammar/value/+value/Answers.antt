use Rattle.std.proofs.lemmas.Result.{err_from_is_err_and}
use Rattle.hd_usda.specs.grammar.Value.{dict}
use Rattle.hd_usda.proofs.Passing.{leads_end, leads_fails}
use Rattle.hd_usda.proofs.grammar.value.+value.Goals as goal

pub rest_of_tuple-returns-in_err-next_of_tuple-clause-gives : goal.rest_of_tuple-returns-in_err-next_of_tuple-clause-gives
rest_of_tuple-returns-in_err-next_of_tuple-clause-gives t c =
    let p = err_from_is_err_and c.from_residual.result c.from_residual.ensures.1 in
    rw (p.1, p.2) (leads_fails _ c.rest.invariant c.passes.ensures.found c.passes.ensures.rest c.rest-test.true c.in_err-next_of_tuple.ensures.gives)

pub rest_of_tuple-returns-clause-gives : goal.rest_of_tuple-returns-clause-gives
rest_of_tuple-returns-clause-gives t c = leads_end c.rest.invariant c.passes.ensures.found c.passes.ensures.rest c.rest-test.false

pub rest_of_list-returns-in_err-next_of_list-clause-gives : goal.rest_of_list-returns-in_err-next_of_list-clause-gives
rest_of_list-returns-in_err-next_of_list-clause-gives t c =
    let p = err_from_is_err_and c.from_residual.result c.from_residual.ensures.1 in
    rw (p.1, p.2) (leads_fails _ c.rest.invariant c.passes.ensures.found c.passes.ensures.rest c.rest-test.true c.in_err-next_of_list.ensures.gives)

pub rest_of_list-returns-clause-gives : goal.rest_of_list-returns-clause-gives
rest_of_list-returns-clause-gives t c = leads_end c.rest.invariant c.passes.ensures.found c.passes.ensures.rest c.rest-test.false

pub dict-returns-in_err-entry_of_dict-clause-gives : goal.dict-returns-in_err-entry_of_dict-clause-gives
unfolding dict
dict-returns-in_err-entry_of_dict-clause-gives t c =
    let p = err_from_is_err_and c.from_residual.result c.from_residual.ensures.1 in
    rw (p.1, p.2) (leads_fails _ c.rest.invariant c.passes.ensures.found c.passes.ensures.rest c.rest-test.true c.in_err-entry_of_dict.ensures.gives)

pub dict-returns-clause-gives : goal.dict-returns-clause-gives
unfolding dict
dict-returns-clause-gives t c = leads_end c.rest.invariant c.passes.ensures.found c.passes.ensures.rest c.rest-test.false
