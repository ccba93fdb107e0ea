use Rattle.std.proofs.Common.{◌≡◌, drop}
use Rattle.hd_rprim.proofs.Counting.{takes}
use Rattle.hd_rprim.specs.Fans.{takes_all}
use Rattle.hd_rprim.proofs.fans.takes_all.Given as goal

abbrev pub invariant-loop-count : goal.invariant-loop-count
invariant-loop-count l = takes (drop l.count-index l.counts) l.left ≡ takes_all l.counts l.indices
