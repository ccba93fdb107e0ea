use Rattle.hd_instancing.proofs.Pairs.{Shares}
use Rattle.hd_instancing.proofs.table.share_all.Given as goal

abbrev pub invariant-loop-target : goal.invariant-loop-target
invariant-loop-target l = Shares l.fn.sets l.target-iterator l.table
