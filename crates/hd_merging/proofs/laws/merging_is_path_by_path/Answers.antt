use Rattle.hd_merging.specs.inner.MergedScenes.{get-merged, there-merged}
use Rattle.hd_merging.proofs.Apart.{value_at-strongest}
use Rattle.hd_merging.proofs.Conforming.{value_at-merged}
use Rattle.hd_merging.proofs.laws.merging_is_path_by_path.Goals as goal

pub returns-clause-prims : goal.returns-clause-prims
returns-clause-prims c = get-merged

pub returns-clause-values : goal.returns-clause-values
returns-clause-values c = value_at-merged

pub returns-clause-paths : goal.returns-clause-paths
returns-clause-paths c = there-merged

pub returns-clause-strongest : goal.returns-clause-strongest
returns-clause-strongest c = value_at-strongest
