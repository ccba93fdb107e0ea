use Rattle.std.proofs.Common.{◌≡◌, ◌≤◌, drop, map, length}
use Rattle.std.specs.Prelude.{All}
use Rattle.hd_merging.specs.Merges.{merged_entry, prims_at}
use Rattle.hd_merging.proofs.queries.prim_of_all.Given as goal

abbrev pub invariant-loop-i : goal.invariant-loop-i
invariant-loop-i g l =
    let scenes = map g.I.SceneIndex.scene in
    record {
      in_range : l.i ≤ length l.inputs;
      in_step : All g.I.SceneIndex.is_in_step l.inputs;
      same_scenes : scenes l.inputs ≡ scenes l.fn.inputs;
      same_origins : map g.I.SceneIndex.origin l.inputs ≡ map g.I.SceneIndex.origin l.fn.inputs;
      value : l.there ≡ merged_entry (prims_at (drop l.i (scenes l.fn.inputs)) l.path);
    }

abbrev pub decreases-loop-i : goal.decreases-loop-i
decreases-loop-i g l = l.i
