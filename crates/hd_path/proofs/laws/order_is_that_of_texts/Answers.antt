use Rattle.hd_path.proofs.Orders as orders
use Rattle.hd_path.proofs.laws.order_is_that_of_texts.Goals as goal

pub returns : goal.returns
returns c = orders.order_is_that_of_texts
