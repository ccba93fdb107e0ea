use Rattle.std.proofs.Common.{◌≡◌, List, sym, ap, subst, ◌∙◌}
use Rattle.std.specs.Prelude.{IfOk}
use Rattle.hd_value.specs.Schema.{is_instanced}
use Rattle.hd_scene.specs.Scenes.{Scene, children_of, SceneConforms}
use Rattle.hd_scene.specs.Filters.{FilterState}
use Rattle.hd_flattening.proofs.Walking.{children_of-flattened}
use Rattle.hd_flattening.proofs.flattening.FlatteningSceneIndex.children.Goals as goal
use Rattle.hd_path.specs.Names.{Name}

pub returns-clause-value : goal.returns-clause-value
returns-clause-value g c =
    let scene = g.I.SceneIndex.scene in
    let same : scene c.self.inside.input ≡ scene c.args.self.now.input = ap (λ (v : FilterState _). scene v.input) c.self.view_is in
    subst (λ (names : List Name). IfOk c.children.result (λ answer. answer ≡ names))
    (ap (λ (s : Scene). children_of s c.args.path.now) same ∙ sym (children_of-flattened (scene c.args.self.now.input) c.args.path.now))
    c.children.ensures.value

pub returns-clause-in_step : goal.returns-clause-in_step
returns-clause-in_step g c =
    let scene = g.I.SceneIndex.scene in
    let same : scene c.self.inside.input ≡ scene c.args.self.now.input = ap (λ (v : FilterState _). scene v.input) c.self.view_is in
    (c.children.ensures.in_step, subst (SceneConforms is_instanced) (sym (c.children.ensures.same_scene ∙ same)) c.requires.1)
