use Rattle.hd_rprim.proofs.KindRows.{rows_have_blanks}
use Rattle.hd_rprim.proofs.laws.rows_have_blanks.Goals as goal

pub returns : goal.returns
returns c = rows_have_blanks
