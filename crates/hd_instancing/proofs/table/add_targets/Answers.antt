use Rattle.std.proofs.Common.{List, ◌||◌, ◌&&◌, ◌∙◌, ap}
use Rattle.std.proofs.lemmas.List.{take_all}
use Rattle.std.specs.List.{list_any}
use Rattle.std.specs.Ordering.{eq_by_cmp}
use Rattle.hd_path.specs.Paths.{Path, path_cmp}
use Rattle.hd_scene.specs.Tells.{is_same_path}
use Rattle.hd_instancing.specs.inner.Tables.{has_pair}
use Rattle.hd_instancing.proofs.Pairs.{no_pair, targets_further}
use Rattle.hd_instancing.proofs.table.add_targets.Goals as goal

pub loop-target-init : goal.loop-target-init
loop-target-init c = λ target path. no_pair (has_pair c.args.sets.now target path) (eq_by_cmp path_cmp path c.args.instancer.now)

pub loop-target-preserved : goal.loop-target-preserved
loop-target-preserved c = λ target path.
    targets_further c.args.instancer.now c.args.targets.now c.loop-target.target-index c.target-item.result
    (has_pair c.args.sets.now target path) (has_pair c.loop-target.sets target path) (has_pair c.add_pair.new.sets target path) target path
    c.loop-target-test.true c.target-item.is (c.loop-target.invariant target path) (c.in_ok-add_pair.ensures target path)

pub returns : goal.returns
returns c = λ target path.
    c.loop-target.invariant target path
    ∙ ap (λ (ts : List Path). has_pair c.args.sets.now target path || (eq_by_cmp path_cmp path c.args.instancer.now && list_any (λ other. is_same_path other target) ts))
    (take_all c.loop-target.target-index c.args.targets.now c.loop-target-test.false)
