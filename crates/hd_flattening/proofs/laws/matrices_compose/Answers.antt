use Rattle.hd_flattening.proofs.Inherits.{matrix_of_child, matrix_out_of_range, matrix_of_root, matrix_of_reset}
use Rattle.hd_flattening.proofs.laws.matrices_compose.Goals as goal

pub returns-clause-child : goal.returns-clause-child
returns-clause-child c = matrix_of_child

pub returns-clause-out_of_range : goal.returns-clause-out_of_range
returns-clause-out_of_range c = matrix_out_of_range

pub returns-clause-root : goal.returns-clause-root
returns-clause-root c = matrix_of_root

pub returns-clause-reset : goal.returns-clause-reset
returns-clause-reset c = matrix_of_reset
