use Rattle.hd_attributes.proofs.Index.{rows_are}
use Rattle.hd_attributes.proofs.laws.rows_are_of_attributes.Goals as goal

pub returns : goal.returns
returns c = rows_are
