use Rattle.hd_picture.proofs.Neighbors.{neighbours_fit}
use Rattle.hd_picture.proofs.laws.neighbours_fit.Goals as goal

pub returns : goal.returns
returns c = neighbours_fit
