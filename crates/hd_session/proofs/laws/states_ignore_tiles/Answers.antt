use Rattle.hd_session.proofs.LawProofs.{states_ignore_tiles}
use Rattle.hd_session.proofs.laws.states_ignore_tiles.Goals as goal

pub returns : goal.returns
returns c = states_ignore_tiles
