use Rattle.std.proofs.Common.{sym, subst}
use Rattle.hd_rprim.specs.Tables.{AreRows}
use Rattle.hd_rprim.proofs.Sorting.{no_rows_ascend}
use Rattle.hd_rprim.proofs.row_table.RowTable.new.Goals as goal

pub invariant_of-result : goal.invariant_of-result
invariant_of-result c = subst AreRows (sym c.new.ensures.items) no_rows_ascend
