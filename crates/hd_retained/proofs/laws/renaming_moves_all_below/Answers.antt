use Rattle.hd_retained.proofs.Renamed.{rename_moves}
use Rattle.hd_retained.proofs.laws.renaming_moves_all_below.Goals as goal

pub returns : goal.returns
returns c = rename_moves
