use Rattle.hd_rprim.proofs.RowLookups.{put_row_is_there, putting_keeps_others, taken_row_is_gone, taking_keeps_others}
use Rattle.hd_rprim.proofs.Sorting.{placed_rows, rows_left}
use Rattle.hd_rprim.proofs.laws.tables_have_what_was_put.Goals as goal

pub returns-clause-put : goal.returns-clause-put
returns-clause-put c = put_row_is_there

pub returns-clause-put_others : goal.returns-clause-put_others
returns-clause-put_others c = putting_keeps_others

pub returns-clause-put_order : goal.returns-clause-put_order
returns-clause-put_order c = placed_rows

pub returns-clause-taken : goal.returns-clause-taken
returns-clause-taken c = taken_row_is_gone

pub returns-clause-taken_others : goal.returns-clause-taken_others
returns-clause-taken_others c = taking_keeps_others

pub returns-clause-taken_order : goal.returns-clause-taken_order
returns-clause-taken_order c = rows_left
