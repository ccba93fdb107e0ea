use Rattle.hd_rprim.proofs.FanTriangles.{faces_are_all_indices}
use Rattle.hd_rprim.proofs.laws.faces_take_all_indices.Goals as goal

pub returns-clause-all : goal.returns-clause-all
returns-clause-all c = faces_are_all_indices
