use Rattle.hd_rprim.proofs.ChangedRows.{changed_bits_read_row}
use Rattle.hd_rprim.proofs.laws.changed_bits_read_the_row.Goals as goal

pub returns : goal.returns
returns c = changed_bits_read_row
