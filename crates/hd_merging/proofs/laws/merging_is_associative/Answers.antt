use Rattle.hd_merging.proofs.Together.{merged-one, merged-further}
use Rattle.hd_merging.proofs.Apart.{merged-first}
use Rattle.hd_merging.proofs.laws.merging_is_associative.Goals as goal

pub returns-clause-one : goal.returns-clause-one
returns-clause-one c = merged-one

pub returns-clause-weaker_first : goal.returns-clause-weaker_first
returns-clause-weaker_first c = merged-further

pub returns-clause-stronger_first : goal.returns-clause-stronger_first
returns-clause-stronger_first c = merged-first
