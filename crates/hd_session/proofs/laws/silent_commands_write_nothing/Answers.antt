use Rattle.hd_session.proofs.LawProofs.{silent_write_nothing}
use Rattle.hd_session.proofs.laws.silent_commands_write_nothing.Goals as goal

pub returns : goal.returns
returns c = silent_write_nothing
