use Rattle.std.proofs.Common.{◌≡◌, ◌+◌, ◌*◌, ◌^◌, ◌<◌, ◌≤◌, length, map, take, true, false, ◌∙◌, arith, add-one}
use Rattle.std.proofs.Math.Seq.{map-set_same}
use Rattle.hd_registry.specs.Entries.{users_at}
use Rattle.hd_sync.specs.Syncing.{uses_all}
use Rattle.hd_sync.proofs.Jobs.{given_more, synced_more, next_of_rest, rest_less, all_more, uses_few}
use Rattle.hd_sync.proofs.syncing.sync_each.Goals as goal

pub sync_one-requires-clause-not_staged : goal.sync_one-requires-clause-not_staged
sync_one-requires-clause-not_staged g c κs within = next_of_rest (λ job. g.T.Staging.is_staged job ≡ false) c.loop-job.jobs c.loop-job.job-index c.job-item.result (omega arith) c.loop-job.invariant.not_staged

pub sync_one-requires-clause-room : goal.sync_one-requires-clause-room
sync_one-requires-clause-room g c κs within = λ t.
    let users : users_at c.loop-job.registry t ≡ users_at c.args.registry.now t + uses_all (map g.T.Staging.given (take c.loop-job.job-index c.loop-job.jobs)) t = c.loop-job.invariant.synced.extends.users t in
    let uses : uses_all (map g.T.Staging.given (take c.loop-job.job-index c.loop-job.jobs)) t ≤ 3 * length c.loop-job.jobs = uses_few g.T.Staging.given c.loop-job.jobs c.loop-job.job-index c.loop-job.given.items c.loop-job.invariant.given t in
    let room : users_at c.args.registry.now t + 2 ^ 30 < 2 ^ 64 = c.requires.room t in
    let few : length c.args.jobs.now ≤ 2 ^ 20 = c.requires.few in
    omega arith

pub returns-in-Err-clause-same_subjects : goal.returns-in-Err-clause-same_subjects
returns-in-Err-clause-same_subjects g c = map-set_same g.T.Staging.subject c.loop-job.jobs c.loop-job.job-index c.sync_one.new.job c.job-item.result c.sync_one.ensures.same_subject ∙ c.loop-job.invariant.subjects

pub returns-in-Err-clause-same_wants : goal.returns-in-Err-clause-same_wants
returns-in-Err-clause-same_wants g c = map-set_same g.T.Staging.wants c.loop-job.jobs c.loop-job.job-index c.sync_one.new.job c.job-item.result c.sync_one.ensures.same_wants ∙ c.loop-job.invariant.wants

pub loop-job-preserved : goal.loop-job-preserved
loop-job-preserved g c =
    let jobs = c.loop-job.jobs in
    let i = c.loop-job.job-index in
    let job = c.sync_one.new.job in
    let within : i < length jobs = omega arith in
    rw add-one (record {
      given = given_more g.T.Staging.given jobs i job _ _ within c.loop-job.invariant.given c.in_default.ensures.given;
      wants = map-set_same g.T.Staging.wants jobs i job c.job-item.result c.in_default.ensures.same_wants ∙ c.loop-job.invariant.wants;
      subjects = map-set_same g.T.Staging.subject jobs i job c.job-item.result c.in_default.ensures.same_subject ∙ c.loop-job.invariant.subjects;
      not_staged = rest_less (λ job. g.T.Staging.is_staged job ≡ false) jobs i job c.loop-job.invariant.not_staged;
      staged = all_more (λ job. g.T.Staging.is_staged job ≡ true) jobs i job within c.in_default.ensures.staged c.loop-job.invariant.staged;
      synced = synced_more g.T.Staging.wants g.T.Staging.given _ _ _ jobs i job _ within c.loop-job.invariant.synced c.in_default.ensures.ok c.in_default.ensures.same_wants;
    })
