use Rattle.std.proofs.Common.{◌≡◌, false, length}
use Rattle.std.specs.BTreeMap.{get}
use Rattle.hd_path.specs.Paths.{Path, path_cmp, is_prefix}
use Rattle.hd_tracker.proofs.below.remove_each.Given as goal

abbrev pub invariant-loop-first : goal.invariant-loop-first
invariant-loop-first l = (p : Path) → is_prefix l.path p ≡ false → get path_cmp l.kept p ≡ get path_cmp l.fn.kept p

abbrev pub decreases-loop-first : goal.decreases-loop-first
decreases-loop-first l = length l.kept.entries
