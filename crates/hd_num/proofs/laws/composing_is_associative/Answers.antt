use Rattle.hd_num.proofs.Products.{composed-composed}
use Rattle.hd_num.proofs.laws.composing_is_associative.Goals as goal

pub returns : goal.returns
returns c = composed-composed
