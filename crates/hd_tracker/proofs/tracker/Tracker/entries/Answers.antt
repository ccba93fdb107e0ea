use Rattle.std.proofs.Common.{sym, ◌∙◌, ap}
use Rattle.std.specs.FinMap.{entries}
use Rattle.hd_tracker.specs.Tracks.{Tracks}
use Rattle.hd_tracker.proofs.Keeping.{entries-tracks}
use Rattle.hd_tracker.proofs.tracker.Tracker.entries.Goals as goal

pub returns-clause-all : goal.returns-clause-all
returns-clause-all c = c.iter.ensures.rest ∙ sym (entries-tracks c.self.inside.kept c.iter.ensures.ordered) ∙ ap (λ (m : Tracks). entries m) c.self.view_is
