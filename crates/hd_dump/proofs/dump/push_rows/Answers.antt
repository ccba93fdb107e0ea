use Rattle.std.proofs.Common.{◌++◌}
use Rattle.std.specs.List.{flat_map}
use Rattle.indexmap.specs.IndexMap.{keys}
use Rattle.hd_rprim.specs.declared.row_table.PathRow.{PathRow}
use Rattle.hd_dump.specs.inner.Numbering.{slot_line}
use Rattle.hd_dump.proofs.Lists.{piece_appended}
use Rattle.hd_dump.proofs.Dumping.{row_there}
use Rattle.hd_dump.proofs.dump.push_rows.Goals as goal

pub rows-preserved : goal.rows-preserved
rows-preserved c =
    rw c.in_ok-push_row.ensures
    (piece_appended (λ (r : PathRow). slot_line (keys c.args.users.now) r.path r.row) c.rows.text.items
    (c.args.text.now.items ++ flat_map (λ (r : PathRow). slot_line (keys c.args.users.now) r.path r.row) c.args.rows.now)
    c.args.rows.now c.rows.i (record { path = c.path_at.result.now; row = c.row_at.result.now })
    (row_there c.args.rows.now c.rows.i c.path_at.result.now c.row_at.result.now c.path_at.ensures c.row_at.ensures)
    c.rows.invariant)
