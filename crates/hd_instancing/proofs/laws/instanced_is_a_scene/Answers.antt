use Rattle.hd_instancing.specs.Scenes.{instanced_closed}
use Rattle.hd_instancing.proofs.Marked.{stays, conforms}
use Rattle.hd_instancing.proofs.laws.instanced_is_a_scene.Goals as goal

pub returns-clause-stays : goal.returns-clause-stays
returns-clause-stays c = stays

pub returns-clause-closed : goal.returns-clause-closed
returns-clause-closed c = instanced_closed

pub returns-clause-conforms : goal.returns-clause-conforms
returns-clause-conforms c = conforms
