use Rattle.hd_stack.proofs.Layered.{inputs_closed}
use Rattle.hd_stack.proofs.stack.terminal_of.Goals as goal

pub new-requires : goal.new-requires
new-requires c = inputs_closed c.args.merging.inputs c.requires.sound
