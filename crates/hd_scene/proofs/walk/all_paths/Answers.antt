use Rattle.std.proofs.Common.{List, [], subst}
use Rattle.hd_path.specs.Paths.{Path}
use Rattle.hd_scene.specs.Scenes.{Scene, children_of}
use Rattle.hd_scene.specs.inner.Walks.{AppendsBelow}
use Rattle.hd_scene.proofs.Walking.{appends_all}
use Rattle.hd_scene.proofs.walk.all_paths.Goals as goal

pub returns-clause-paths : goal.returns-clause-paths
returns-clause-paths g c =
    let scene : Scene = g.I.SceneIndex.scene c.args.index.now in
    let from_root : AppendsBelow scene [] (children_of scene []) c.new-paths.result.items c.add_below.new.paths.items =
    subst (λ (p : Path). AppendsBelow scene p (children_of scene p) c.new-paths.result.items c.add_below.new.paths.items) c.root-root.ensures c.in_ok-add_below.ensures.added in
    appends_all scene c.add_below.new.paths.items (g.met.I.SceneIndex.closed c.args.index.now c.requires)
    (subst (λ (z : List Path). AppendsBelow scene [] (children_of scene []) z c.add_below.new.paths.items) c.new-paths.ensures.items from_root)
