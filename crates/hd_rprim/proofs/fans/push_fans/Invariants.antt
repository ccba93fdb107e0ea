use Rattle.std.proofs.Common.{◌≡◌, ◌++◌, drop, true}
use Rattle.hd_rprim.specs.Fans.{takes_all, faces, fans_from}
use Rattle.hd_rprim.proofs.fans.push_fans.Given as goal

-- the triangles so far, and those of the counts and indices that are left, are those of all
abbrev pub invariant-loop-number : goal.invariant-loop-number
invariant-loop-number l = record {
  left : takes_all (drop l.number l.counts) l.rest ≡ true;
  made : l.made.items ++ fans_from l.number (faces (drop l.number l.counts) l.rest) ≡ l.fn.made.items ++ fans_from 0 (faces l.counts l.indices);
}
