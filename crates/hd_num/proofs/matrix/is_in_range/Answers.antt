use Rattle.hd_num.proofs.Shapes.{in_range-rows}
use Rattle.hd_num.proofs.matrix.is_in_range.Goals as goal

pub returns-clause-test : goal.returns-clause-test
returns-clause-test c =
    rw (c.is_row_within.ensures.test, c.is_row_within-2.ensures.test, c.is_row_within-3.ensures.test, c.is_row_within-4.ensures.test) (in_range-rows c.args.rows.now c.told-rows)
