use Rattle.std.proofs.Common.{◌≡◌, take}
use Rattle.hd_scene.specs.inner.Walks.{AppendsBelow}
use Rattle.hd_scene.proofs.walk.+add_below.Given as goal

abbrev pub invariant-loop-name : goal.invariant-loop-name
invariant-loop-name g l = record {
  in_step : g.I.SceneIndex.is_in_step l.index;
  same_scene : g.I.SceneIndex.scene l.index ≡ g.I.SceneIndex.scene l.fn.index;
  same_origin : g.I.SceneIndex.origin l.index ≡ g.I.SceneIndex.origin l.fn.index;
  same_pulls : g.I.SceneIndex.pulls l.index ≡ g.I.SceneIndex.pulls l.fn.index;
  seen : AppendsBelow (g.I.SceneIndex.scene l.fn.index) l.path (take l.name-index l.name-items) l.fn.paths.items l.paths.items;
}

abbrev pub decreases-add_below : goal.decreases-add_below
decreases-add_below g l = l.left
