use Rattle.std.proofs.Common.{◌≡◌, map, sym, ◌∙◌, ap, subst}
use Rattle.hd_scene.specs.Scenes.{Scene}
use Rattle.hd_index.specs.Index.{Shows}
use Rattle.hd_index.proofs.Placing.{same_paths}
use Rattle.hd_index.proofs.Showing.{has_room, few_jobs, shows_still, shows_jobs}
use Rattle.hd_index.proofs.populating.populate.Goals as goal

pub sync-requires-clause-few : goal.sync-requires-clause-few
sync-requires-clause-few g c = few_jobs (g.I.SceneIndex.scene c.args.scene.now) c.in_ok-jobs.jobs.items _ c.requires.few c.in_ok-jobs.ensures.planned

pub sync-requires-clause-room : goal.sync-requires-clause-room
sync-requires-clause-room g c = has_room c.args.committed.now.scene c.args.rows.now c.args.registry.now c.requires.shows c.requires.empty

pub returns-in_err-sync-clause-shows : goal.returns-in_err-sync-clause-shows
returns-in_err-sync-clause-shows g c = shows_still c.args.committed.now.scene c.args.rows.now c.args.registry.now c.requires.shows c.requires.empty _ c.in_err-sync.ensures.err

pub fill-requires : goal.fill-requires
fill-requires g c = c.in_ok-table.ensures ∙ ap (map (λ job. job.path)) c.deref-2.ensures.value ∙ sym (same_paths c.in_ok-jobs.jobs.items c.sync.new.jobs.items c.sync.ensures.same_subjects)

pub returns-clause-shows : goal.returns-clause-shows
returns-clause-shows g c =
    let scene : c.of.result.scene ≡ g.I.SceneIndex.scene c.args.scene.now = c.of.ensures ∙ c.in_ok-jobs.ensures.same_scene in
    subst (λ (s : Scene). Shows s c.fill.new.rows c.sync.new.registry) (sym scene)
    (shows_jobs c.args.committed.now.scene c.args.rows.now c.args.registry.now c.requires.shows c.requires.empty
    (g.I.SceneIndex.scene c.args.scene.now) c.sync.new.registry c.in_ok-jobs.jobs.items c.sync.new.jobs.items c.fill.new.rows
    c.in_ok-jobs.ensures.planned c.in_ok-jobs.ensures.no_slots c.sync.ensures.same_subjects c.sync.ensures.same_wants c.in_ok-sync.ensures.staged c.in_ok-sync.ensures.ok c.fill.ensures)
