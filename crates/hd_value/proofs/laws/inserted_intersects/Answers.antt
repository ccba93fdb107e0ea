use Rattle.hd_value.proofs.Inserting as inserting
use Rattle.hd_value.proofs.laws.inserted_intersects.Goals as goal

pub returns : goal.returns
returns c = inserting.inserted_intersects
