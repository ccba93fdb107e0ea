use Rattle.hd_instancing.proofs.Marked.{ascend, targets_above, no_targets}
use Rattle.hd_instancing.proofs.laws.instancers_have_targets.Goals as goal

pub returns-clause-ascend : goal.returns-clause-ascend
returns-clause-ascend c = ascend

pub returns-clause-have : goal.returns-clause-have
returns-clause-have c = targets_above

pub returns-clause-none : goal.returns-clause-none
returns-clause-none c = no_targets
