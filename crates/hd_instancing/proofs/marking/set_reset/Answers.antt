use Rattle.hd_instancing.proofs.Marked.{reset_free}
use Rattle.hd_instancing.proofs.marking.set_reset.Goals as goal

pub set_at-requires-clause-free : goal.set_at-requires-clause-free
set_at-requires-clause-free c = reset_free c.args.values.now c.requires
