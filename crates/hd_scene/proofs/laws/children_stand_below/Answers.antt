use Rattle.hd_scene.proofs.Children.{AreChildren-children_of, children_of-unique, children_of-absent}
use Rattle.hd_scene.proofs.laws.children_stand_below.Goals as goal

pub returns-clause-below : goal.returns-clause-below
returns-clause-below c = AreChildren-children_of

pub returns-clause-one : goal.returns-clause-one
returns-clause-one c = children_of-unique

pub returns-clause-absent : goal.returns-clause-absent
returns-clause-absent c = children_of-absent
