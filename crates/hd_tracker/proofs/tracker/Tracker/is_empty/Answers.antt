use Rattle.std.proofs.Common.{sym, ◌∙◌, ap}
use Rattle.std.proofs.lemmas.Bool.Decides.{Decides-eqb}
use Rattle.std.specs.FinMap.{len, empty_of_len, len-empty}
use Rattle.hd_path.specs.Paths.{path_cmp}
use Rattle.hd_tracker.specs.declared.tracker.Tracked.{Tracked}
use Rattle.hd_tracker.specs.Tracks.{Tracks}
use Rattle.hd_tracker.proofs.tracker.Tracker.is_empty.Goals as goal

pub returns : goal.returns
returns c = (
  λ h. empty_of_len c.args.self.now (sym c.len.ensures ∙ (Decides-eqb c.len.result 0).0 h),
  λ e. (Decides-eqb c.len.result 0).1 (c.len.ensures ∙ ap (λ (m : Tracks). len m) e ∙ len-empty path_cmp Tracked),
)
