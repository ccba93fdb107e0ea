use Rattle.std.proofs.Common.{◌≡◌, ◌++◌, drop}
use Rattle.std.specs.List.{enumerate_from, flat_map}
use Rattle.indexmap.specs.IndexMap.{keys}
use Rattle.hd_dump.specs.inner.Numbering.{slot_entry_line}
use Rattle.hd_dump.proofs.dump.push_entries.Given as goal

abbrev pub invariant-entries : goal.invariant-entries
invariant-entries l =
    l.text.items ++ flat_map (slot_entry_line l.registry l.users) (enumerate_from l.number (drop l.number (keys l.users)))
    ≡ l.fn.text.items ++ flat_map (slot_entry_line l.registry l.users) (enumerate_from 0 (keys l.users))
