use Rattle.std.proofs.Common.{cond, Some, ◌∙◌, ap}
use Rattle.std.specs.BTreeMap.{get}
use Rattle.std.specs.Ordering.{is_eq}
use Rattle.hd_path.specs.Paths.{Path, path_cmp}
use Rattle.hd_tracker.specs.declared.tracker.Tracked.{Tracked}
use Rattle.hd_tracker.proofs.Keeping.{is_at_path}
use Rattle.hd_tracker.proofs.tracker.put_copy.Goals as goal

pub returns : goal.returns
returns c = λ p.
    c.in_ok-insert.ensures.updates.0 p
    ∙ ap (λ (q : Path). cond (is_eq (path_cmp q p)) (Some c.in_ok-copy-2.field-0) (get path_cmp c.args.kept.now p)) c.in_ok-copy.ensures
    ∙ ap (λ (t : Tracked). cond (is_eq (path_cmp c.args.path.now p)) (Some t) (get path_cmp c.args.kept.now p)) c.in_ok-copy-2.ensures
    ∙ ap (λ b. cond b (Some c.args.tracked.now) (get path_cmp c.args.kept.now p)) (is_at_path c.args.path.now p)
