use Rattle.hd_picture.proofs.Neighbors.{weights_add_up}
use Rattle.hd_picture.proofs.laws.weights_add_up.Goals as goal

pub returns : goal.returns
returns c = weights_add_up
