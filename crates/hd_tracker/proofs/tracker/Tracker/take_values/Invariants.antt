use Rattle.std.proofs.Common.{◌≡◌, true, drop}
use Rattle.std.specs.FinMap.{get}
use Rattle.std.specs.List.{list_all}
use Rattle.hd_path.specs.Paths.{Path}
use Rattle.hd_tracker.specs.Tracks.{tracked_after}
use Rattle.hd_tracker.specs.inner.Values.{is_of_values}
use Rattle.hd_tracker.proofs.tracker.Tracker.take_values.Given as goal

abbrev pub invariant-loop-notice : goal.invariant-loop-notice
invariant-loop-notice l = record {
  left : list_all is_of_values (drop l.notice-index l.notices) ≡ true;
  same : (p : Path) → tracked_after l.notices p (get l.fn.self p) ≡ tracked_after (drop l.notice-index l.notices) p (get l.self p);
}
