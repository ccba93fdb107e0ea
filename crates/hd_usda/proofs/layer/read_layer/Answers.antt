use Rattle.hd_usda.proofs.WellFormedPrims.{layer_given, kinds_given}
use Rattle.hd_usda.proofs.layer.read_layer.Goals as goal

pub returns-clause-well_formed : goal.returns-clause-well_formed
returns-clause-well_formed c = layer_given c.layer.result c.new.result _ _ c.new.ensures c.layer.ensures

pub returns-clause-kinds : goal.returns-clause-kinds
returns-clause-kinds c = kinds_given c.layer.result c.new.result _ _ c.new.ensures c.layer.ensures
