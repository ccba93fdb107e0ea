use Rattle.hd_scene.proofs.Telling.{Tells-same_kind, Tells-of_both}
use Rattle.hd_scene.proofs.laws.untold_prims_keep_their_kinds.Goals as goal

pub returns-clause-kinds : goal.returns-clause-kinds
returns-clause-kinds c = Tells-same_kind

pub returns-clause-both : goal.returns-clause-both
returns-clause-both c = Tells-of_both
