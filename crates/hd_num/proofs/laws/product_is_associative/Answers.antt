use Rattle.hd_num.proofs.Products.{product-product}
use Rattle.hd_num.proofs.laws.product_is_associative.Goals as goal

pub returns : goal.returns
returns c = product-product
