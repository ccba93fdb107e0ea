use Rattle.hd_num.proofs.Products.{identity_neutral}
use Rattle.hd_num.proofs.laws.identity_is_neutral.Goals as goal

pub returns : goal.returns
returns c = identity_neutral
