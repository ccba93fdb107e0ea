use Rattle.std.proofs.Common.{sym, ◌∙◌}
use Rattle.hd_index.specs.inner.NoPrims.{no_children}
use Rattle.hd_index.proofs.nowhere.NowhereSceneIndex.children.Goals as goal

pub returns-clause-value : goal.returns-clause-value
returns-clause-value c = c.empty.ensures ∙ sym (no_children c.args._path.now)
