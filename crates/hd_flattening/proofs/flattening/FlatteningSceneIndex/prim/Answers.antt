use Rattle.std.proofs.Common.{◌≡◌, sym, ap, subst, ◌∙◌}
use Rattle.hd_value.specs.Schema.{is_instanced}
use Rattle.hd_scene.specs.Scenes.{SceneConforms}
use Rattle.hd_scene.specs.Filters.{FilterState}
use Rattle.hd_flattening.proofs.flattening.FlatteningSceneIndex.prim.Goals as goal

pub prim_at-requires-clause-conforms : goal.prim_at-requires-clause-conforms
prim_at-requires-clause-conforms g c =
    let scene = g.I.SceneIndex.scene in
    let same : scene c.self.inside.input ≡ scene c.args.self.now.input = ap (λ (v : FilterState _). scene v.input) c.self.view_is in
    subst (SceneConforms is_instanced) (sym same) c.requires.1

pub returns-clause-in_step : goal.returns-clause-in_step
returns-clause-in_step g c =
    let scene = g.I.SceneIndex.scene in
    let same : scene c.self.inside.input ≡ scene c.args.self.now.input = ap (λ (v : FilterState _). scene v.input) c.self.view_is in
    (c.prim_at.ensures.in_step, subst (SceneConforms is_instanced) (sym (c.prim_at.ensures.same_scene ∙ same)) c.requires.1)
