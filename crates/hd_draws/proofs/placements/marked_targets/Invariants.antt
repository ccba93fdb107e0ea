use Rattle.std.proofs.Common.{◌≡◌, map, take}
use Rattle.hd_path.specs.Paths.{is_prefix}
use Rattle.hd_draws.proofs.placements.marked_targets.Given as goal

abbrev pub invariant-loop-target : goal.invariant-loop-target
invariant-loop-target l = l.marks.items ≡ map (λ target. is_prefix target l.path) (take l.target-index l.targets)
