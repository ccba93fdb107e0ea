use Rattle.hd_scene.proofs.Telling.{Tells-compose}
use Rattle.hd_scene.proofs.laws.telling_composes.Goals as goal

pub returns : goal.returns
returns c = Tells-compose
