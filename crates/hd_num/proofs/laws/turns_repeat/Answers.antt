use Rattle.hd_num.proofs.Quarters.{turns-add_four}
use Rattle.hd_num.proofs.laws.turns_repeat.Goals as goal

pub returns : goal.returns
returns c = turns-add_four
