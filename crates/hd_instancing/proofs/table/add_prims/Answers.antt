use Rattle.std.proofs.Common.{◌≡◌, List, ◌||◌, ◌&&◌, refl, ◌∙◌, ap}
use Rattle.std.proofs.lemmas.List.{take_all}
use Rattle.std.specs.List.{list_any}
use Rattle.std.specs.Ordering.{eq_by_cmp}
use Rattle.hd_path.specs.Paths.{Path, path_cmp}
use Rattle.hd_scene.specs.Scenes.{Scene}
use Rattle.hd_scene.specs.Tells.{is_same_path}
use Rattle.hd_instancing.specs.Targets.{targets_at, has_target}
use Rattle.hd_instancing.specs.inner.Tables.{has_pair, is_among}
use Rattle.hd_instancing.proofs.Pairs.{pair_none, prims_further}
use Rattle.hd_instancing.proofs.table.add_prims.Goals as goal

pub loop-path-init : goal.loop-path-init
loop-path-init g c = record {
  in_step = c.requires;
  same_scene = refl;
  same_origin = refl;
  added = λ target instancer. pair_none (has_pair c.args.sets.now target instancer);
}

pub loop-path-preserved : goal.loop-path-preserved
loop-path-preserved g c =
    let scene : Scene = g.I.SceneIndex.scene c.args.input.now in
    record {
      in_step = c.add_prim.ensures.in_step;
      same_scene = c.add_prim.ensures.same_scene ∙ c.loop-path.invariant.same_scene;
      same_origin = c.add_prim.ensures.same_origin ∙ c.loop-path.invariant.same_origin;
      added = λ target path.
          let own : has_pair c.add_prim.new.sets target path ≡ (has_pair c.loop-path.sets target path || (eq_by_cmp path_cmp path c.path-item.result && list_any (λ other. is_same_path other target) (targets_at scene c.path-item.result))) =
          c.in_ok-add_prim.ensures.added target path
          ∙ ap (λ (s : Scene). has_pair c.loop-path.sets target path || (eq_by_cmp path_cmp path c.path-item.result && list_any (λ other. is_same_path other target) (targets_at s c.path-item.result))) c.loop-path.invariant.same_scene in
          prims_further scene c.args.paths.now c.loop-path.path-index c.path-item.result
          (has_pair c.args.sets.now target path) (has_pair c.loop-path.sets target path) (has_pair c.add_prim.new.sets target path) target path
          c.loop-path-test.true c.path-item.is (c.loop-path.invariant.added target path) own;
    }

pub returns-clause-added : goal.returns-clause-added
returns-clause-added g c = λ target path.
    c.loop-path.invariant.added target path
    ∙ ap (λ (ps : List Path). has_pair c.args.sets.now target path || (is_among path ps && has_target (g.I.SceneIndex.scene c.args.input.now) path target))
    (take_all c.loop-path.path-index c.args.paths.now c.loop-path-test.false)
