use Rattle.hd_flattening.specs.Scenes.{flattened_closed}
use Rattle.hd_flattening.proofs.FlatSchema.{flattened_conforms}
use Rattle.hd_flattening.proofs.laws.flattened_is_a_scene.Goals as goal

pub returns-clause-closed : goal.returns-clause-closed
returns-clause-closed c = flattened_closed

pub returns-clause-conforms : goal.returns-clause-conforms
returns-clause-conforms c = flattened_conforms
