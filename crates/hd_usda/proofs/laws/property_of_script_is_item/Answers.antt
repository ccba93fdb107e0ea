use Rattle.hd_usda.proofs.ScriptItems.{script_is_item}
use Rattle.hd_usda.proofs.laws.property_of_script_is_item.Goals as goal

pub returns : goal.returns
returns c text property reads form found = script_is_item text property reads form found
