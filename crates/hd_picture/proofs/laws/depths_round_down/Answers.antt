use Rattle.hd_picture.proofs.FloorDivision.{each_rounds_down}
use Rattle.hd_picture.proofs.laws.depths_round_down.Goals as goal

pub returns : goal.returns
returns c = each_rounds_down
