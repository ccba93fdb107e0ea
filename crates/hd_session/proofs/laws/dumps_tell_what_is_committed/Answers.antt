use Rattle.hd_session.proofs.LawProofs.{tell_what_is_committed}
use Rattle.hd_session.proofs.laws.dumps_tell_what_is_committed.Goals as goal

pub returns : goal.returns
returns c = tell_what_is_committed
