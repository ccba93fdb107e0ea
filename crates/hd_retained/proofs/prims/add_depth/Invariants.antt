use Rattle.std.proofs.Common.{◌≡◌, ◌++◌, map, filter}
use Rattle.std.specs.Map.{keys_of}
use Rattle.std.specs.Map.Iter.{deref_pair}
use Rattle.hd_retained.specs.inner.Indexed.{is_at_depth}
use Rattle.hd_retained.proofs.Depths.{from_place}
use Rattle.hd_retained.proofs.prims.add_depth.Given as goal

abbrev pub invariant-loop-key : goal.invariant-loop-key
invariant-loop-key l = record {
  left : from_place l.start l.prims.entries ≡ map deref_pair l.yielded ++ l.key-iterator;
  found : l.keys.items ≡ l.fn.keys.items ++ filter (is_at_depth l.depth l.path) (keys_of (map deref_pair l.yielded));
}
