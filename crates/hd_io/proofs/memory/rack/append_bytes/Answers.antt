use Rattle.std.proofs.Common.{◌-◌, arith}
use Rattle.hd_io.proofs.Appending.{written, unwritten}
use Rattle.hd_io.proofs.memory.rack.append_bytes.Goals as goal

pub returns-clause-written : goal.returns-clause-written
returns-clause-written c =
    written c.args.files.now.items (c.len-last.result - 1) c.index_mut.result.now c.index_mut.ensures.value c.extend_from_slice.new.self c.args.bytes.now (omega arith)
    c.extend_from_slice.result c.extend_from_slice.ensures.items

pub returns-clause-unchanged : goal.returns-clause-unchanged
returns-clause-unchanged c =
    unwritten c.args.files.now.items (c.len-last.result - 1) c.index_mut.result.now c.index_mut.ensures.value c.extend_from_slice.new.self c.args.bytes.now
    c.extend_from_slice.result c.extend_from_slice.ensures.items
