use Rattle.hd_rprim.proofs.StagedRows.{bits_add_up}
use Rattle.hd_rprim.proofs.laws.bits_add_up.Goals as goal

pub returns : goal.returns
returns c = bits_add_up
