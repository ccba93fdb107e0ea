use Rattle.std.proofs.Common.{◌≡◌}
use Rattle.hd_retained.proofs.PathsFrom.{paths_of}
use Rattle.hd_retained.proofs.prims.paths_from.Given as goal

abbrev pub invariant-loop-key : goal.invariant-loop-key
invariant-loop-key l = l.paths.items ≡ paths_of l.yielded
