use Rattle.std.proofs.Common.{◌≡◌, ◌≤◌, ◌++◌, ◌∷◌, [], drop, map, length, is_some}
use Rattle.std.specs.Prelude.{All}
use Rattle.std.specs.FinMap.{get}
use Rattle.std.specs.BTreeSet.{contains}
use Rattle.hd_path.specs.Names.{Name, byte_order}
use Rattle.hd_merging.specs.Merges.{merged_scene}
use Rattle.hd_merging.proofs.queries.names_below.Given as goal

abbrev pub invariant-loop-i : goal.invariant-loop-i
invariant-loop-i g l =
    let scenes = map g.I.SceneIndex.scene in
    record {
      in_range : l.i ≤ length l.inputs;
      in_step : All g.I.SceneIndex.is_in_step l.inputs;
      same_scenes : scenes l.inputs ≡ scenes l.fn.inputs;
      same_origins : map g.I.SceneIndex.origin l.inputs ≡ map g.I.SceneIndex.origin l.fn.inputs;
      there : (name : Name) → contains byte_order l.names name ≡ is_some (get (merged_scene (drop l.i (scenes l.fn.inputs))) (l.path ++ name ∷ []));
    }

abbrev pub decreases-loop-i : goal.decreases-loop-i
decreases-loop-i g l = l.i
