use Rattle.std.proofs.Common.{◌≡◌, List, ◌||◌, ◌&&◌, ◌∙◌, ap}
use Rattle.std.proofs.lemmas.Result.{on_ok_weaker}
use Rattle.std.specs.List.{list_any}
use Rattle.std.specs.Ordering.{eq_by_cmp}
use Rattle.hd_path.specs.Paths.{Path, path_cmp}
use Rattle.hd_scene.specs.Scenes.{Scene}
use Rattle.hd_scene.specs.Tells.{is_same_path}
use Rattle.hd_instancing.specs.Targets.{targets_at}
use Rattle.hd_instancing.specs.inner.Tables.{has_pair}
use Rattle.hd_instancing.proofs.Pairs.{asked_targets}
use Rattle.hd_instancing.proofs.table.add_prim.Goals as goal

pub returns-clause-added : goal.returns-clause-added
returns-clause-added g c =
    let scene : Scene = g.I.SceneIndex.scene c.args.input.now in
    let targets : c.targets_of.result.now ≡ targets_at scene c.args.path.now = c.targets_of.ensures ∙ asked_targets scene c.args.path.now c.in_ok-prim.prim c.in_ok-prim.ensures.value in
    on_ok_weaker c.add_targets.result (λ h target path.
    h target path
    ∙ ap (λ (ts : List Path). has_pair c.args.sets.now target path || (eq_by_cmp path_cmp path c.args.path.now && list_any (λ other. is_same_path other target) ts)) targets) c.add_targets.ensures
