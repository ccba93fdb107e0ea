use Rattle.std.proofs.Common.{◌≡◌, ◌||◌, take}
use Rattle.std.specs.BTreeSet.{contains}
use Rattle.hd_path.specs.Paths.{Path, path_cmp}
use Rattle.hd_instancing.specs.inner.Tables.{is_among}
use Rattle.hd_instancing.proofs.table.add_paths.Given as goal

abbrev pub invariant-loop-path : goal.invariant-loop-path
invariant-loop-path l = (q : Path) → contains path_cmp l.all q ≡ (contains path_cmp l.fn.all q || is_among q (take l.path-index l.fn.paths))
