use Rattle.hd_retained.proofs.Spelled.{scene_kinds, scene_values, layer_as_spelled}
use Rattle.hd_retained.proofs.laws.scenes_have_what_is_authored.Goals as goal

pub returns-clause-kinds : goal.returns-clause-kinds
returns-clause-kinds c = scene_kinds

pub returns-clause-values : goal.returns-clause-values
returns-clause-values c = scene_values

pub returns-clause-spelled : goal.returns-clause-spelled
returns-clause-spelled c = layer_as_spelled
