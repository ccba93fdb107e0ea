use Rattle.std.proofs.Common.{◌≡◌, ℕ, suc, List, length, ap, ◌∙◌}
use Rattle.hd_rprim.specs.declared.row.Row.{Row}
use Rattle.hd_rprim.specs.Tables.{with_row_at}
use Rattle.hd_index.specs.declared.job.RowJob.{RowJob}
use Rattle.hd_index.proofs.Filling.{filled_from, one_filled, job_taken, one_fewer, LeavesFirst}
use Rattle.hd_index.proofs.table.fill.Goals as goal

pub loop-job-preserved : goal.loop-job-preserved
loop-job-preserved c =
    let all : List RowJob = c.args.jobs.items in
    let rest : List RowJob = c.pop.new.self.items in
    let n : ℕ = length rest in
    let job : RowJob = c.in-Some.job in
    let was : LeavesFirst rest job all = job_taken c.loop-job.jobs.items rest job all c.loop-job.invariant.left c.in-Some.ensures.items in
    let rows : c.loop-job.rows ≡ filled_from (suc n) all c.args.rows.now =
    c.loop-job.invariant.rows ∙ ap (λ (k : ℕ). filled_from k all c.args.rows.now) (one_fewer c.loop-job.jobs.items rest job c.in-Some.ensures.items) in
    record {
      left = was.are_first;
      rows =
          c.set.ensures
          ∙ ap (λ (k : ℕ). with_row_at k c.into_row.result c.loop-job.rows) (c.len.ensures ∙ c.pop.new.self.ok.0)
          ∙ ap (λ (row : Row). with_row_at n row c.loop-job.rows) c.into_row.ensures
          ∙ ap (with_row_at n _) rows
          ∙ one_filled n job all c.args.rows.now c.requires was.fewer was.is_next;
    }
