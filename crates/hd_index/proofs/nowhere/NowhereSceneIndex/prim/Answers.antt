use Rattle.std.specs.FinMap.{get-empty}
use Rattle.hd_path.specs.Paths.{path_cmp}
use Rattle.hd_index.proofs.nowhere.NowhereSceneIndex.prim.Goals as goal

pub returns-clause-value : goal.returns-clause-value
returns-clause-value c = rw (get-empty path_cmp c.args._path.now) c.absent.ensures
