use Rattle.hd_usda.proofs.ScriptItems.{script_has_value, script_is_property}
use Rattle.hd_usda.proofs.laws.script_reads_properties_with_values.Goals as goal

pub returns-clause-has_value : goal.returns-clause-has_value
returns-clause-has_value c text property reads = script_has_value text property reads

pub returns-clause-same : goal.returns-clause-same
returns-clause-same c text equals = script_is_property text equals
