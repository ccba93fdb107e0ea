use Rattle.hd_num.proofs.Quarters.{turns-four}
use Rattle.hd_num.proofs.laws.four_turns_are_none.Goals as goal

pub returns : goal.returns
returns c = turns-four
