use Rattle.std.proofs.Common.{◌≡◌, List, sym, ap, subst, ◌∙◌}
use Rattle.std.specs.Prelude.{IfOk}
use Rattle.hd_path.specs.Names.{Name}
use Rattle.hd_value.specs.Schema.{is_authored}
use Rattle.hd_scene.specs.Filters.{FilterState}
use Rattle.hd_scene.specs.Scenes.{Scene, children_of, SceneConforms}
use Rattle.hd_instancing.proofs.Marked.{children_of-instanced}
use Rattle.hd_instancing.proofs.instancing.InstancingSceneIndex.children.Goals as goal

pub returns-clause-value : goal.returns-clause-value
returns-clause-value g c =
    let scene = g.I.SceneIndex.scene in
    let same : scene c.self.inside.input ≡ scene c.args.self.now.input = ap (λ (v : FilterState _). scene v.input) c.self.view_is in
    subst (λ (names : List Name). IfOk c.children.result (λ answer. answer ≡ names))
    (ap (λ (s : Scene). children_of s c.args.path.now) same ∙ sym (children_of-instanced (scene c.args.self.now.input) c.args.path.now))
    c.children.ensures.value

pub returns-clause-in_step : goal.returns-clause-in_step
returns-clause-in_step g c =
    let scene = g.I.SceneIndex.scene in
    let same : scene c.self.inside.input ≡ scene c.args.self.now.input = ap (λ (v : FilterState _). scene v.input) c.self.view_is in (
      c.children.ensures.in_step,
      subst (SceneConforms is_authored) (sym (c.children.ensures.same_scene ∙ same)) c.requires.1,
      λ fresh. c.children.ensures.same_scene ∙ same ∙ c.requires.2 (sym (ap (λ (v : FilterState _). v.spent) c.self.view_is) ∙ fresh) ∙ sym (ap (λ (v : FilterState _). v.told) c.self.view_is),
    )
