use Rattle.std.proofs.Common.{◌∙◌, ap}
use Rattle.hd_flattening.specs.Values.{is_set}
use Rattle.hd_rprim.proofs.values.visible_in.Goals as goal

pub returns : goal.returns
returns c = c.is_set.ensures ∙ ap is_set c.value_at.ensures
