use Rattle.std.proofs.Common.{◌≡◌, ◌++◌, drop}
use Rattle.std.specs.List.{flat_map}
use Rattle.indexmap.specs.IndexMap.{keys}
use Rattle.hd_dump.specs.inner.Numbering.{slot_line}
use Rattle.hd_dump.proofs.dump.push_rows.Given as goal

abbrev pub invariant-rows : goal.invariant-rows
invariant-rows l =
    l.text.items ++ flat_map (λ r. slot_line (keys l.users) r.path r.row) (drop l.i l.rows)
    ≡ l.fn.text.items ++ flat_map (λ r. slot_line (keys l.users) r.path r.row) l.rows
