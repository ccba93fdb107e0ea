use Rattle.hd_app.proofs.RunLemmas.{usage_runs}
use Rattle.hd_app.proofs.top.run.Goals as goal

pub returns-in-None-clause-runs : goal.returns-in-None-clause-runs
returns-in-None-clause-runs g c = rw (← c.in-None.ensures) (usage_runs _ _ _ _ (c.refuse.ensures.ends _))
