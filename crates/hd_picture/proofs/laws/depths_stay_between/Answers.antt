use Rattle.hd_picture.proofs.DepthTests.{depth_between, flat_has_one_depth}
use Rattle.hd_picture.proofs.laws.depths_stay_between.Goals as goal

pub returns-clause-between : goal.returns-clause-between
returns-clause-between c = depth_between

pub returns-clause-flat : goal.returns-clause-flat
returns-clause-flat c = flat_has_one_depth
