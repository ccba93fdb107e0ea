use Rattle.std.proofs.Common.{◌≡◌, ◌≤◌, ◌+◌, ◌-◌, ◌*◌, ◌++◌, length, drop}
use Rattle.hd_value.specs.inner.Depths.{depth, longest}
use Rattle.hd_value.specs.Levels.{values_of}
use Rattle.hd_value.proofs.Overlaying.{source_depth}
use Rattle.hd_value.proofs.Merging.{merge}
use Rattle.hd_value.proofs.container.overlaying.+overlay.Given as goal

abbrev pub decreases-container_over : goal.decreases-container_over
decreases-container_over l = 3 * depth l.strong.now + 1

abbrev pub decreases-merge : goal.decreases-merge
decreases-merge l = 3 * longest (values_of l.over.now)

abbrev pub decreases-source_over : goal.decreases-source_over
decreases-source_over l = source_depth l.strong.now

abbrev pub invariant-merge-loop-i : goal.invariant-merge-loop-i
invariant-merge-loop-i l = record {
  over_in_range : l.i ≤ length l.over;
  under_in_range : l.j ≤ length l.under;
  so_far : l.all.items ++ merge (drop l.i l.over) (drop l.j l.under) ≡ merge l.over l.under;
}

abbrev pub decreases-merge-loop-i : goal.decreases-merge-loop-i
decreases-merge-loop-i l = (length l.over - l.i) + (length l.under - l.j)
