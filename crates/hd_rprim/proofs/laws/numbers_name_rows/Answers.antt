use Rattle.hd_rprim.proofs.RowLookups.{numbers_name_rows, no_number_no_row}
use Rattle.hd_rprim.proofs.laws.numbers_name_rows.Goals as goal

pub returns-clause-number : goal.returns-clause-number
returns-clause-number c = numbers_name_rows

pub returns-clause-no_number : goal.returns-clause-no_number
returns-clause-no_number c = no_number_no_row
