use Rattle.std.proofs.Common.{[], ◌∷◌}
use Rattle.hd_merging.proofs.Together.{both_parts}
use Rattle.hd_merging.proofs.prims.both.Goals as goal

pub returns : goal.returns
returns c = both_parts c.first_of.result c.in_ok-values.values (c.args.strong ∷ c.args.weak ∷ []) c.first_of.ensures c.in_ok-values.ensures
