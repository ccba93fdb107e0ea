use Rattle.std.proofs.Common.{◌≡◌, drop}
use Rattle.std.specs.List.{list_all}
use Rattle.hd_tracker.specs.inner.Values.{is_of_values}
use Rattle.hd_tracker.proofs.tracker.are_of_values.Given as goal

abbrev pub invariant-loop-notice : goal.invariant-loop-notice
invariant-loop-notice l = list_all is_of_values l.notices ≡ list_all is_of_values (drop l.notice-index l.notices)
