use Rattle.std.proofs.Common.{subst}
use Rattle.hd_scene.specs.Scenes.{Scene}
use Rattle.hd_rprim.specs.PrimRows.{rows_of}
use Rattle.hd_index.specs.Index.{HasEntries}
use Rattle.hd_index.proofs.Sharing.{has_entries}
use Rattle.hd_index.proofs.index.RenderIndex.registry.Goals as goal

pub returns : goal.returns
returns c = subst (λ (scene : Scene). HasEntries (rows_of scene) c.self.inside.registry) c.self.view_is (has_entries _ _ _ c.self.invariant c.contents_are_unique.ensures)
