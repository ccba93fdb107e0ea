use Rattle.hd_sync.proofs.Uses.{synced_wants}
use Rattle.hd_sync.proofs.wants.register_wants.Goals as goal

pub returns-in-Ok-register_one-clause-ok : goal.returns-in-Ok-register_one-clause-ok
returns-in-Ok-register_one-clause-ok g c = synced_wants _ _ _ _ _ _ _ _ _ _ c.in_ok-first.ensures.ok c.in-Ok.ensures.ok c.in-Ok-register_one.ensures.ok
