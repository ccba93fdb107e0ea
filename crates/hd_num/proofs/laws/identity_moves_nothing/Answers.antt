use Rattle.hd_num.proofs.Products.{moved-identity}
use Rattle.hd_num.proofs.laws.identity_moves_nothing.Goals as goal

pub returns : goal.returns
returns c = moved-identity
