use Rattle.hd_script.proofs.Causes.{no_want}
use Rattle.hd_script.proofs.PathCauses.{no_path_wants, no_name_wants}
use Rattle.hd_script.proofs.laws.lines_want_no_memory.Goals as goal

pub returns-clause-lines : goal.returns-clause-lines
returns-clause-lines c = no_want

pub returns-clause-paths : goal.returns-clause-paths
returns-clause-paths c = no_path_wants

pub returns-clause-names : goal.returns-clause-names
returns-clause-names c = no_name_wants
