use Rattle.std.proofs.Common.{sym, ◌∙◌, ap}
use Rattle.std.specs.FinMap.{len}
use Rattle.hd_tracker.specs.Tracks.{Tracks}
use Rattle.hd_tracker.proofs.Keeping.{len-tracks}
use Rattle.hd_tracker.proofs.tracker.Tracker.len.Goals as goal

pub returns : goal.returns
returns c = c.len.ensures.len ∙ sym (len-tracks c.self.inside.kept c.len.ensures.ordered) ∙ ap (λ (m : Tracks). len m) c.self.view_is
