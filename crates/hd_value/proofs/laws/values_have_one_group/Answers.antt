use Rattle.hd_value.proofs.Grouping.{instanced_have_one_group, flattened_have_one_group}
use Rattle.hd_value.proofs.laws.values_have_one_group.Goals as goal

pub returns-clause-before : goal.returns-clause-before
returns-clause-before c = instanced_have_one_group

pub returns-clause-flattened : goal.returns-clause-flattened
returns-clause-flattened c = flattened_have_one_group
