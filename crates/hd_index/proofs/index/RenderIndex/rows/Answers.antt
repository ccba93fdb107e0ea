use Rattle.std.proofs.Common.{map, ap, ◌∙◌}
use Rattle.hd_scene.specs.Scenes.{Scene}
use Rattle.hd_rprim.specs.PrimRows.{rows_of}
use Rattle.hd_index.specs.Index.{contents_left_out}
use Rattle.hd_index.proofs.Keeping.{rows_alone}
use Rattle.hd_index.proofs.index.RenderIndex.rows.Goals as goal

pub returns : goal.returns
returns c = rows_alone _ _ _ c.self.invariant ∙ ap (λ (scene : Scene). map contents_left_out (rows_of scene)) c.self.view_is
