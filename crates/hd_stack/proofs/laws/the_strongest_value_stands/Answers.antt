use Rattle.hd_stack.proofs.Strongest.{strongest}
use Rattle.hd_stack.proofs.laws.the_strongest_value_stands.Goals as goal

pub returns : goal.returns
returns c = strongest
