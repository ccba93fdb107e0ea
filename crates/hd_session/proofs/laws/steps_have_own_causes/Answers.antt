use Rattle.hd_session.proofs.Causes.{have_own_causes}
use Rattle.hd_session.proofs.laws.steps_have_own_causes.Goals as goal

pub returns : goal.returns
returns c = have_own_causes
