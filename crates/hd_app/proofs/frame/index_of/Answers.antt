use Rattle.std.proofs.Common.{◌≤◌, length, arith}
use Rattle.hd_layer.specs.Limits.{limit_of}
use Rattle.hd_layer.specs.declared.limits.Which.TheVariants.{Layers}
use Rattle.hd_session.proofs.Sizes.{few_prims, no_rows}
use Rattle.hd_app.proofs.frame.index_of.Goals as goal

pub populate-requires-clause-few : goal.populate-requires-clause-few
populate-requires-clause-few c =
    let one : length c.in_ok-stack.stack.layers ≤ limit_of Layers = rw (c.in_ok-stack.ensures.layers, c.in_ok-vec.ensures.items) (omega arith) in
    few_prims c.in_ok-stack.stack.layers c.is_in_step.ensures one

pub populate-requires-clause-empty : goal.populate-requires-clause-empty
populate-requires-clause-empty c = no_rows c.in_ok-index.index c.in_ok-index.ensures
