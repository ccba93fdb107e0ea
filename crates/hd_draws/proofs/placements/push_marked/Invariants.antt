use Rattle.std.proofs.Common.{◌≡◌, ◌++◌, drop}
use Rattle.std.specs.List.{filter_map, zip}
use Rattle.hd_draws.specs.inner.Targets.{marked_copy}
use Rattle.hd_draws.proofs.placements.push_marked.Given as goal

-- the copies so far, and those at the positions that are left, are all
abbrev pub invariant-loop-i : goal.invariant-loop-i
invariant-loop-i l =
    l.made.items ++ filter_map (marked_copy l.marks l.own l.instancer.matrix) (zip (drop l.i l.instancer.positions) (drop l.i l.instancer.proto_indices))
    ≡ l.fn.made.items ++ filter_map (marked_copy l.marks l.own l.instancer.matrix) (zip l.instancer.positions l.instancer.proto_indices)
