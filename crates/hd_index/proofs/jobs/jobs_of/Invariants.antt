use Rattle.std.proofs.Common.{◌≡◌, ◌++◌, false, All, map, filter_map}
use Rattle.std.specs.FinMap.{get}
use Rattle.std.specs.Vec.Iter.{into_iter_items}
use Rattle.hd_scene.specs.Scenes.{prim_of}
use Rattle.hd_dirty.specs.Bits.{number_of}
use Rattle.hd_rprim.specs.PrimRows.{rows_of}
use Rattle.hd_index.specs.Reports.{all_dirty}
use Rattle.hd_index.specs.inner.Jobs.{planned, shown_of_answer, dirty_of_answer, HasNoSlots}
use Rattle.hd_index.proofs.jobs.jobs_of.Given as goal

-- the jobs so far, and those of the paths that are left, are those of the scene
abbrev pub invariant-loop-path : goal.invariant-loop-path
invariant-loop-path g l = record {
  in_step : g.I.SceneIndex.is_in_step l.scene;
  same_scene : g.I.SceneIndex.scene l.scene ≡ g.I.SceneIndex.scene l.fn.scene;
  same_origin : g.I.SceneIndex.origin l.scene ≡ g.I.SceneIndex.origin l.fn.scene;
  planned : rows_of (g.I.SceneIndex.scene l.fn.scene) ≡ map planned l.jobs.items ++ filter_map (λ p. shown_of_answer p (prim_of (get (g.I.SceneIndex.scene l.fn.scene) p))) (into_iter_items l.path-iterator);
  bits : all_dirty (g.I.SceneIndex.scene l.fn.scene) ≡ map (λ job. (job.path, number_of job.bits)) l.jobs.items ++ filter_map (λ p. dirty_of_answer p (prim_of (get (g.I.SceneIndex.scene l.fn.scene) p))) (into_iter_items l.path-iterator);
  not_staged : All (λ job. job.is_staged ≡ false) l.jobs.items;
  no_slots : All HasNoSlots l.jobs.items;
}
