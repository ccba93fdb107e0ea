use Rattle.hd_retained.proofs.Gathering.{IsGathered}
use Rattle.hd_retained.proofs.prims.subtree.Given as goal

abbrev pub invariant-loop-depth : goal.invariant-loop-depth
invariant-loop-depth l = IsGathered l.prims l.path l.depth l.keys.items
