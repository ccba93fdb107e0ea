use Rattle.std.proofs.Common.{◌≡◌, take}
use Rattle.hd_retained.specs.inner.Indexed.{layer_in, with_copies, IsSound}
use Rattle.hd_retained.proofs.renaming.copy_all.Given as goal

abbrev pub invariant-loop-i : goal.invariant-loop-i
invariant-loop-i l = record {
  sound : IsSound l.prims;
  copied : layer_in l.prims ≡ with_copies (layer_in l.fn.prims) (take l.i l.keys) (take l.i l.others);
}
