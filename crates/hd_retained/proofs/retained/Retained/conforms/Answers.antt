use Rattle.std.proofs.Common.{subst}
use Rattle.hd_value.specs.Schema.{is_authored}
use Rattle.hd_scene.specs.Scenes.{SceneConforms}
use Rattle.hd_retained.specs.Edits.{State}
use Rattle.hd_retained.specs.Layers.{scene_of}
use Rattle.hd_retained.proofs.Conforming.{kept_conforms}
use Rattle.hd_retained.proofs.retained.Retained.conforms.Goals as goal

pub returns : goal.returns
returns c = subst (λ (s : State). SceneConforms is_authored (scene_of s.layer)) c.self.view_is (kept_conforms c.self.inside.prims c.self.invariant.sound)
