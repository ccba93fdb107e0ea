use Rattle.hd_index.proofs.Keeping.{keeps_slots}
use Rattle.hd_index.proofs.index.RenderIndex.parts.Goals as goal

pub returns-clause-kept : goal.returns-clause-kept
returns-clause-kept c = keeps_slots _ _ _ c.self.invariant
