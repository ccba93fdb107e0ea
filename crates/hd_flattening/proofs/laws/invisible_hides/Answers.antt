use Rattle.hd_flattening.proofs.Inherits.{invisible_hides}
use Rattle.hd_flattening.proofs.laws.invisible_hides.Goals as goal

pub returns : goal.returns
returns c = invisible_hides
