use Rattle.std.proofs.Common.{◌≡◌, ◌≤◌, ◌∷◌, [], ◌++◌, List, take, length, ◌∙◌, ap, subst, arith}
use Rattle.std.proofs.lemmas.List.{take_all}
use Rattle.hd_path.specs.Names.{Name}
use Rattle.hd_path.specs.Paths.{Path}
use Rattle.hd_scene.specs.Scenes.{Scene, children_of}
use Rattle.hd_scene.specs.inner.Walks.{AppendsBelow}
use Rattle.hd_scene.proofs.Walking.{appends_none, appends_deep, appends_step}
use Rattle.hd_scene.proofs.walk.+add_below.Goals as goal

pub returns-then-left-eq0-clause-added : goal.returns-then-left-eq0-clause-added
returns-then-left-eq0-clause-added g t c =
    let scene : Scene = g.I.SceneIndex.scene c.args.index.now in
    let deep : 32 ≤ length c.args.path.now = omega (arith, c.requires.deep, c.if-left-eq0.true) in
    appends_deep scene c.args.path.now (children_of scene c.args.path.now) c.args.paths.now.items (g.met.I.SceneIndex.closed c.args.index.now c.requires.in_step) deep

pub loop-name-init : goal.loop-name-init
loop-name-init g t c = record {
  in_step = c.children.ensures.in_step;
  same_scene = c.children.ensures.same_scene;
  same_origin = c.children.ensures.same_origin;
  same_pulls = c.children.ensures.same_pulls;
  seen = appends_none _ _ _;
}

pub loop-name-preserved : goal.loop-name-preserved
loop-name-preserved g t c =
    let scene : Scene = g.I.SceneIndex.scene c.args.index.now in
    let child : Path = c.in_ok-child.child in
    let names : c.items-name-items.result.now ≡ children_of scene c.args.path.now = c.items-name-items.ensures ∙ c.in_ok-names.ensures.value in
    let longer : c.push.new.self.items ≡ c.loop-name.paths.items ++ child ∷ [] =
    c.in_ok-push.ensures.items ∙ ap (λ (p : Path). c.loop-name.paths.items ++ p ∷ []) c.in_ok-copy.ensures in
    let below : AppendsBelow scene child (children_of scene child) c.push.new.self.items c.add_below.new.paths.items =
    subst (λ (s : Scene). AppendsBelow s child (children_of s child) c.push.new.self.items c.add_below.new.paths.items) c.loop-name.invariant.same_scene c.in_ok-add_below.ensures.added in
    record {
      in_step = c.add_below.ensures.in_step;
      same_scene = c.add_below.ensures.same_scene ∙ c.loop-name.invariant.same_scene;
      same_origin = c.add_below.ensures.same_origin ∙ c.loop-name.invariant.same_origin;
      same_pulls = c.add_below.ensures.same_pulls ∙ c.loop-name.invariant.same_pulls;
      seen = appends_step scene c.args.path.now child c.items-name-items.result.now c.loop-name.name-index c.name-item.result
          c.args.paths.now.items c.loop-name.paths.items c.push.new.self.items c.add_below.new.paths.items
          (g.met.I.SceneIndex.closed c.args.index.now c.requires.in_step) names c.loop-name-test.true c.name-item.is c.in_ok-child.ensures longer c.loop-name.invariant.seen below;
    }

pub returns-clause-added : goal.returns-clause-added
returns-clause-added g t c =
    let scene : Scene = g.I.SceneIndex.scene c.args.index.now in
    let all : take c.loop-name.name-index c.items-name-items.result.now ≡ children_of scene c.args.path.now =
    take_all c.loop-name.name-index c.items-name-items.result.now c.loop-name-test.false ∙ c.items-name-items.ensures ∙ c.in_ok-names.ensures.value in
    subst (λ (z : List Name). AppendsBelow scene c.args.path.now z c.args.paths.now.items c.loop-name.paths.items) all c.loop-name.invariant.seen
