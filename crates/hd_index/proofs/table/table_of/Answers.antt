use Rattle.std.proofs.Common.{ap, ◌∙◌}
use Rattle.hd_path.specs.Paths.{Path}
use Rattle.hd_rprim.specs.Tables.{paths_of_rows, rows_with}
use Rattle.hd_index.proofs.Appending.{row_appended}
use Rattle.hd_index.proofs.table.table_of.Goals as goal

pub loop-job-preserved : goal.loop-job-preserved
loop-job-preserved c =
    let path : Path = c.in_ok-copy.field-0 in
    ap paths_of_rows c.in_ok-put.ensures.ok
    ∙ ap (λ (p : Path). paths_of_rows (rows_with p c.in_ok-copy-2.field-0 c.loop-job.rows)) c.in_ok-copy.ensures
    ∙ row_appended c.args.jobs.now c.loop-job.job-index c.job-item.result c.in_ok-copy-2.field-0 c.loop-job.rows c.requires c.loop-job-test.true c.job-item.is c.loop-job.invariant
