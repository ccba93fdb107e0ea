use Rattle.hd_usda.proofs.ScriptItems.{statement_reads}
use Rattle.hd_usda.proofs.statement.read_property.Goals as goal

pub returns-in-Ok-clause-well_formed : goal.returns-in-Ok-clause-well_formed
returns-in-Ok-clause-well_formed c = statement_reads c.new.result c.in-Ok.property c.in-Ok.ensures
