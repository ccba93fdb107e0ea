use Rattle.hd_path.proofs.FaultPlaces.{text_first_fault, child_first_fault}
use Rattle.hd_path.proofs.laws.fault_is_where_no_path_goes_on.Goals as goal

pub returns-clause-text : goal.returns-clause-text
returns-clause-text c = text_first_fault

pub returns-clause-child : goal.returns-clause-child
returns-clause-child c = child_first_fault
