use Rattle.hd_num.proofs.Products.{moved-product}
use Rattle.hd_num.proofs.laws.product_moves_in_turn.Goals as goal

pub returns : goal.returns
returns c = moved-product
