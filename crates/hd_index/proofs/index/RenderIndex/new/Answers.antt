use Rattle.hd_index.proofs.Showing.{nothing_shows}
use Rattle.hd_index.proofs.index.RenderIndex.new.Goals as goal

pub invariant_of-result : goal.invariant_of-result
invariant_of-result c = nothing_shows _ _ _ c.empty_scene.ensures c.new.ensures c.in_ok-new.ensures
