use Rattle.hd_num.proofs.Products.{moved-translation}
use Rattle.hd_num.proofs.laws.translation_adds.Goals as goal

pub returns : goal.returns
returns c = moved-translation
