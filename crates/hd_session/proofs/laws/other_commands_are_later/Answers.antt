use Rattle.hd_session.proofs.LawProofs.{others_are_later}
use Rattle.hd_session.proofs.laws.other_commands_are_later.Goals as goal

pub returns : goal.returns
returns c = others_are_later
