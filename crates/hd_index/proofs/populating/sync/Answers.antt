use Rattle.std.proofs.Common.{◌≡◌, true, arith}
use Rattle.std.proofs.lemmas.Result.{on_ok_weaker, on_err_weaker}
use Rattle.hd_index.proofs.Refusals.{refused_same, all_written}
use Rattle.hd_index.proofs.populating.sync.Goals as goal

pub returns-then-is_err-clause-err : goal.returns-then-is_err-clause-err
returns-then-is_err-clause-err g c = on_err_weaker c.sync_all-synced.result.1
    (λ extends. refused_same _ c.replace-taken.result c.sync_all-synced.result.0 _ c.replace-taken.ensures.value c.requires.used extends c.collect.ensures.collects)
    c.sync_all-synced.ensures.err

pub returns-else-is_err-clause-staged : goal.returns-else-is_err-clause-staged
returns-else-is_err-clause-staged g c = on_ok_weaker c.sync_all-synced.result.1
    (λ all. all_written (λ job. job.is_staged ≡ true) c.args.jobs.now.len c.sync_all-synced.new.jobs c.args.jobs.now.items (omega arith) (omega arith) all)
    c.sync_all-synced.ensures.staged
