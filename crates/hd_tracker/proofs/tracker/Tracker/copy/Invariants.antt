use Rattle.std.proofs.Common.{◌≡◌}
use Rattle.std.specs.BTreeMap as tree
use Rattle.std.specs.FinMap.{get}
use Rattle.std.specs.List.Sorted.{IsStrictlySortedBy}
use Rattle.std.specs.Map.{lookup, keys_of}
use Rattle.std.specs.Option.{option_or}
use Rattle.std.specs.Ordering.{is_eq}
use Rattle.hd_path.specs.Paths.{Path, path_cmp}
use Rattle.hd_tracker.proofs.tracker.Tracker.copy.Given as goal

abbrev pub invariant-loop-path : goal.invariant-loop-path
invariant-loop-path l = record {
  ascending : IsStrictlySortedBy path_cmp (keys_of l.path-iterator);
  same : (p : Path) → option_or (lookup (λ k. is_eq (path_cmp p k)) l.path-iterator) (tree.get path_cmp l.kept p) ≡ get l.self p;
}
