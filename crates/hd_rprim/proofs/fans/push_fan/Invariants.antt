use Rattle.std.proofs.Common.{◌≡◌, ◌++◌, ◌-◌, ◌≤◌, length, map}
use Rattle.std.specs.List.{range_with_len}
use Rattle.hd_rprim.specs.Fans.{fan_triangle}
use Rattle.hd_rprim.proofs.fans.push_fan.Given as goal

-- the triangles of the corners so far, of which there are no more than the face has
abbrev pub invariant-loop-k : goal.invariant-loop-k
invariant-loop-k l = record {
  made : l.made.items ≡ l.fn.made.items ++ map (fan_triangle l.number l.face) (range_with_len 1 (l.k - 1));
  within : l.k - 1 ≤ length l.face - 2;
}
