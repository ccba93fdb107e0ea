use Rattle.hd_stack.proofs.Counted.{scenes_bounded}
use Rattle.hd_stack.proofs.laws.scenes_are_bounded.Goals as goal

pub returns : goal.returns
returns c = scenes_bounded
