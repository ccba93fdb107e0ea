use Rattle.hd_num.proofs.Products.{moved-scaling}
use Rattle.hd_num.proofs.laws.scaling_multiplies.Goals as goal

pub returns : goal.returns
returns c = moved-scaling
