use Rattle.std.proofs.Common.{◌≡◌, take, drop, map, All, true, false}
use Rattle.hd_sync.specs.Syncing.{listed, Synced}
use Rattle.hd_sync.proofs.syncing.sync_each.Given as goal

abbrev pub invariant-loop-job : goal.invariant-loop-job
invariant-loop-job g l = record {
  given : map listed l.given.items ≡ map g.T.Staging.given (take l.job-index l.jobs);
  wants : map g.T.Staging.wants l.jobs ≡ map g.T.Staging.wants l.initial.jobs;
  subjects : map g.T.Staging.subject l.jobs ≡ map g.T.Staging.subject l.initial.jobs;
  not_staged : All (λ job. g.T.Staging.is_staged job ≡ false) (drop l.job-index l.jobs);
  staged : All (λ job. g.T.Staging.is_staged job ≡ true) (take l.job-index l.jobs);
  synced : Synced l.fn.registry l.registry (map g.T.Staging.wants (take l.job-index l.jobs)) (map g.T.Staging.given (take l.job-index l.jobs));
}
