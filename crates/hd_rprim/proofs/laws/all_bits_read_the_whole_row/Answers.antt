use Rattle.hd_rprim.proofs.KindRows.{all_bits_read_row, all_bits_want_contents}
use Rattle.hd_rprim.proofs.laws.all_bits_read_the_whole_row.Goals as goal

pub returns-clause-row : goal.returns-clause-row
returns-clause-row c = all_bits_read_row

pub returns-clause-contents : goal.returns-clause-contents
returns-clause-contents c = all_bits_want_contents
