use Rattle.std.proofs.Common.{◌≡◌, ◌||◌, ◌&&◌, take}
use Rattle.hd_path.specs.Paths.{Path}
use Rattle.hd_instancing.specs.Targets.{has_target}
use Rattle.hd_instancing.specs.inner.Tables.{has_pair, is_among}
use Rattle.hd_instancing.proofs.table.add_prims.Given as goal

abbrev pub invariant-loop-path : goal.invariant-loop-path
invariant-loop-path g l = record {
  in_step : g.I.SceneIndex.is_in_step l.input;
  same_scene : g.I.SceneIndex.scene l.input ≡ g.I.SceneIndex.scene l.fn.input;
  same_origin : g.I.SceneIndex.origin l.input ≡ g.I.SceneIndex.origin l.fn.input;
  added : (target instancer : Path) → has_pair l.sets target instancer ≡ (has_pair l.fn.sets target instancer || (is_among instancer (take l.path-index l.paths) && has_target (g.I.SceneIndex.scene l.fn.input) instancer target));
}
