use Rattle.std.proofs.Common.{arith}
use Rattle.hd_session.proofs.Sizes.{no_rows, few_prims}
use Rattle.hd_session.proofs.session.index_of.Goals as goal

pub populate-requires-clause-few : goal.populate-requires-clause-few
populate-requires-clause-few g c = few_prims c.args.stack.now.layers c.is_in_step.ensures (omega (arith, c.layers.ensures.count, c.layers.ensures.few))

pub populate-requires-clause-empty : goal.populate-requires-clause-empty
populate-requires-clause-empty g c = no_rows c.in_ok-index.index c.in_ok-index.ensures
