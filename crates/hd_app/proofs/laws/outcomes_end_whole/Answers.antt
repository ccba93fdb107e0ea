use Rattle.hd_app.proofs.Wholeness.{outcomes_end_whole}
use Rattle.hd_app.proofs.laws.outcomes_end_whole.Goals as goal

pub returns : goal.returns
returns c = outcomes_end_whole
