use Rattle.std.proofs.Common.{◌≡◌, drop}
use Rattle.std.specs.FinMap.{get}
use Rattle.hd_path.specs.Paths.{Path}
use Rattle.hd_tracker.specs.Tracks.{tracked_after}
use Rattle.hd_tracker.proofs.tracker.Tracker.take.Given as goal

abbrev pub invariant-loop-notice : goal.invariant-loop-notice
invariant-loop-notice l = (p : Path) → tracked_after l.notices p (get l.fn.self p) ≡ tracked_after (drop l.notice-index l.notices) p (get l.next p)
