use Rattle.std.proofs.Common.{◌≡◌, ◌||◌, take}
use Rattle.std.specs.List.{list_any}
use Rattle.std.specs.BTreeSet.{contains}
use Rattle.hd_path.specs.Names.{Name, is_same, byte_order}
use Rattle.hd_merging.proofs.queries.add_names.Given as goal

abbrev pub invariant-loop-name : goal.invariant-loop-name
invariant-loop-name l = (name : Name) → contains byte_order l.names name ≡ (contains byte_order l.fn.names name || list_any (is_same name) (take l.name-index l.fn.more))
