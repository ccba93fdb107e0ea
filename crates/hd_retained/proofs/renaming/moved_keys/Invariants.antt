use Rattle.std.proofs.Common.{◌≡◌, map, take, false}
use Rattle.std.specs.List.{list_any}
use Rattle.hd_retained.specs.inner.Indexed.{moved_key, is_key_too_deep}
use Rattle.hd_retained.proofs.renaming.moved_keys.Given as goal

abbrev pub invariant-loop-key : goal.invariant-loop-key
invariant-loop-key l = record {
  keys : l.others.items ≡ map (moved_key l.from l.to) (take l.key-index l.keys);
  shallow : list_any (is_key_too_deep l.from l.to) (take l.key-index l.keys) ≡ false;
}
