use Rattle.std.proofs.Common.{◌≡◌, false, All, sym, subst}
use Rattle.std.proofs.lemmas.List.Elements.{All-push}
use Rattle.hd_index.specs.declared.job.RowJob.{RowJob}
use Rattle.hd_index.specs.inner.Jobs.{HasNoSlots}
use Rattle.hd_index.proofs.jobs.add_job.Goals as goal

pub returns-in_ok-push-clause-not_staged : goal.returns-in_ok-push-clause-not_staged
returns-in_ok-push-clause-not_staged c = λ all.
    let P = λ (job : RowJob). job.is_staged ≡ false in
    subst (All P) (sym c.in_ok-push.ensures.items) (All-push P c.args.jobs.now.items c.in-Some.job all c.in-Some.ensures.not_staged)

pub returns-in_ok-push-clause-no_slots : goal.returns-in_ok-push-clause-no_slots
returns-in_ok-push-clause-no_slots c = λ all.
    subst (All HasNoSlots) (sym c.in_ok-push.ensures.items) (All-push HasNoSlots c.args.jobs.now.items c.in-Some.job all c.in-Some.ensures.no_slots)
