use Rattle.hd_tracker.proofs.ClearBits.{clear_bits_are_untold, clear_bits_keep_values}
use Rattle.hd_tracker.proofs.laws.clear_bits_keep_values.Goals as goal

pub returns-clause-untold : goal.returns-clause-untold
returns-clause-untold c = clear_bits_are_untold

pub returns-clause-values : goal.returns-clause-values
returns-clause-values c = clear_bits_keep_values
