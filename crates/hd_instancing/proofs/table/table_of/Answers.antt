use Rattle.std.proofs.Common.{◌≡◌, ◌||◌, ◌&&◌, List, ◌∙◌, subst}
use Rattle.std.specs.FinMap.{keys}
use Rattle.hd_path.specs.Paths.{Path}
use Rattle.hd_scene.specs.Scenes.{Scene}
use Rattle.hd_instancing.specs.Targets.{has_target}
use Rattle.hd_instancing.specs.inner.Tables.{has_pair, is_among}
use Rattle.hd_instancing.proofs.Pairs.{all_hold}
use Rattle.hd_instancing.proofs.table.table_of.Goals as goal

pub returns-clause-holds : goal.returns-clause-holds
returns-clause-holds g c =
    let scene : Scene = g.I.SceneIndex.scene c.args.input.now in
    let paths : List Path = c.as_slice.result.now in
    let are : paths ≡ keys scene = c.as_slice.ensures.value ∙ c.in_ok-paths.ensures.paths in
    all_hold scene paths c.new-sets.result c.add_prims.new.sets c.in_ok-table.table are c.new-sets.ensures.empty
    (subst (λ (s : Scene). (target instancer : Path) → has_pair c.add_prims.new.sets target instancer ≡ (has_pair c.new-sets.result target instancer || (is_among instancer paths && has_target s instancer target)))
    c.all_paths.ensures.same_scene c.in_ok-add_prims.ensures.added)
    c.in_ok-table.ensures.listed c.in_ok-table.ensures.ascending
