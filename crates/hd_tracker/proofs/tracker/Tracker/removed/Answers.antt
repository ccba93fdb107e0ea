use Rattle.std.proofs.Common.{cond, None, sym, ◌∙◌, ap}
use Rattle.std.specs.FinMap.{get}
use Rattle.hd_path.specs.Paths.{is_prefix}
use Rattle.hd_tracker.specs.Tracks.{Tracks}
use Rattle.hd_tracker.proofs.Keeping.{get-tracks}
use Rattle.hd_tracker.proofs.tracker.Tracker.removed.Goals as goal

pub returns : goal.returns
returns c = λ p.
    get-tracks c.remove_below.new.kept p
    ∙ c.remove_below.ensures p
    ∙ ap (cond (is_prefix c.args.path.now p) None) (sym (get-tracks c.self.inside.kept p) ∙ ap (λ (m : Tracks). get m p) c.self.view_is)
