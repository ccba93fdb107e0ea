use Rattle.std.proofs.Common.{◌≡◌, ◌||◌, ◌&&◌, take}
use Rattle.std.specs.List.{list_any}
use Rattle.std.specs.Ordering.{eq_by_cmp}
use Rattle.hd_path.specs.Paths.{Path, path_cmp}
use Rattle.hd_scene.specs.Tells.{is_same_path}
use Rattle.hd_instancing.specs.inner.Tables.{has_pair}
use Rattle.hd_instancing.proofs.table.add_targets.Given as goal

abbrev pub invariant-loop-target : goal.invariant-loop-target
invariant-loop-target l = (target path : Path) → has_pair l.sets target path ≡ (has_pair l.fn.sets target path || (eq_by_cmp path_cmp path l.instancer && list_any (λ other. is_same_path other target) (take l.target-index l.fn.targets)))
