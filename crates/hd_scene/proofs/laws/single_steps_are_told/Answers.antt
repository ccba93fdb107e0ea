use Rattle.hd_scene.proofs.Steps.{Tells-added, Tells-removed, Tells-dirtied}
use Rattle.hd_scene.proofs.Telling.{Tells-none}
use Rattle.hd_scene.proofs.laws.single_steps_are_told.Goals as goal

pub returns-clause-nothing : goal.returns-clause-nothing
returns-clause-nothing c = Tells-none

pub returns-clause-added : goal.returns-clause-added
returns-clause-added c = Tells-added

pub returns-clause-removed : goal.returns-clause-removed
returns-clause-removed c = Tells-removed

pub returns-clause-dirtied : goal.returns-clause-dirtied
returns-clause-dirtied c = Tells-dirtied
