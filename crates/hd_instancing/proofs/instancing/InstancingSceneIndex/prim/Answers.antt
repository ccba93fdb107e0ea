use Rattle.std.proofs.Common.{◌≡◌, false, sym, ◌∙◌, ap, subst}
use Rattle.std.proofs.lemmas.Bool.{false≢true}
use Rattle.std.proofs.lemmas.Result.{IfOk-weaker}
use Rattle.std.specs.FinMap.{get}
use Rattle.hd_value.specs.Schema.{is_authored}
use Rattle.hd_scene.specs.Filters.{FilterState}
use Rattle.hd_scene.specs.Scenes.{Scene, prim_of, SceneConforms}
use Rattle.hd_instancing.specs.Instanced.{instanced_scene}
use Rattle.hd_instancing.specs.inner.Tables.{Holds}
use Rattle.hd_instancing.proofs.instancing.InstancingSceneIndex.prim.Goals as goal

-- out of memory, the filter stays spent
pub returns-in_err-mend-clause-in_step : goal.returns-in_err-mend-clause-in_step
returns-in_err-mend-clause-in_step g c =
    let scene = g.I.SceneIndex.scene in
    let same : scene c.self.inside.input ≡ scene c.args.self.now.input = ap (λ (v : FilterState _). scene v.input) c.self.view_is in
    (c.mend.ensures.in_step, subst (SceneConforms is_authored) (sym (c.mend.ensures.same_scene ∙ same)) c.requires.1, λ fresh. absurd (false≢true (sym fresh ∙ c.in_err-mend.ensures.err)))

pub prim_at-requires-clause-conforms : goal.prim_at-requires-clause-conforms
prim_at-requires-clause-conforms g c =
    let scene = g.I.SceneIndex.scene in
    let same : scene c.self.inside.input ≡ scene c.args.self.now.input = ap (λ (v : FilterState _). scene v.input) c.self.view_is in
    subst (SceneConforms is_authored) (sym (c.mend.ensures.same_scene ∙ same)) c.requires.1

pub returns-clause-value : goal.returns-clause-value
returns-clause-value g c =
    let scene = g.I.SceneIndex.scene in
    let same : scene c.self.inside.input ≡ scene c.args.self.now.input = ap (λ (v : FilterState _). scene v.input) c.self.view_is in
    let held : c.self.inside.spent ≡ false → Holds (scene c.self.inside.input) c.self.inside.table = λ fresh.
    subst (λ (s : Scene). Holds s c.self.inside.table)
    (ap (λ (v : FilterState _). v.told) c.self.view_is ∙ sym (c.requires.2 (sym (ap (λ (v : FilterState _). v.spent) c.self.view_is) ∙ fresh)) ∙ sym same)
    (c.self.invariant fresh) in
    let holds : Holds (scene c.mend.new.input) c.mend.new.table = subst (λ (s : Scene). Holds s c.mend.new.table) (sym c.mend.ensures.same_scene) (c.in_ok-mend.ensures.holds held) in
    IfOk-weaker c.prim_at.result _ _ (λ p h. h holds ∙ ap (λ (s : Scene). prim_of (get (instanced_scene s) c.args.path.now)) (c.mend.ensures.same_scene ∙ same)) c.prim_at.ensures.value

pub returns-clause-in_step : goal.returns-clause-in_step
returns-clause-in_step g c =
    let scene = g.I.SceneIndex.scene in
    let same : scene c.self.inside.input ≡ scene c.args.self.now.input = ap (λ (v : FilterState _). scene v.input) c.self.view_is in (
      c.prim_at.ensures.in_step,
      subst (SceneConforms is_authored) (sym (c.prim_at.ensures.same_scene ∙ c.mend.ensures.same_scene ∙ same)) c.requires.1,
      λ _. c.prim_at.ensures.same_scene ∙ sym c.of.ensures,
    )

pub invariant_of-self : goal.invariant_of-self
invariant_of-self g c = λ fresh. absurd (false≢true (sym fresh ∙ c.in_err-mend.ensures.err))

pub invariant_of-self-2 : goal.invariant_of-self-2
invariant_of-self-2 g c =
    let scene = g.I.SceneIndex.scene in
    let same : scene c.self.inside.input ≡ scene c.args.self.now.input = ap (λ (v : FilterState _). scene v.input) c.self.view_is in
    let held : c.self.inside.spent ≡ false → Holds (scene c.self.inside.input) c.self.inside.table = λ fresh.
    subst (λ (s : Scene). Holds s c.self.inside.table)
    (ap (λ (v : FilterState _). v.told) c.self.view_is ∙ sym (c.requires.2 (sym (ap (λ (v : FilterState _). v.spent) c.self.view_is) ∙ fresh)) ∙ sym same)
    (c.self.invariant fresh) in
    λ _. subst (λ (s : Scene). Holds s c.mend.new.table) (sym c.mend.ensures.same_scene ∙ sym c.of.ensures) (c.in_ok-mend.ensures.holds held)
