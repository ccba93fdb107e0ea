use Rattle.std.proofs.Common.{take}
use Rattle.hd_retained.specs.inner.Indexed.{IsWithout}
use Rattle.hd_retained.proofs.prims.remove_all.Given as goal

abbrev pub invariant-loop-key : goal.invariant-loop-key
invariant-loop-key l = IsWithout l.fn.prims (take l.key-index l.keys) l.prims
