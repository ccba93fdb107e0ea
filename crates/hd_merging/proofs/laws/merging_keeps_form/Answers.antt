use Rattle.hd_merging.specs.inner.MergedScenes.{merged_closed}
use Rattle.hd_merging.proofs.Conforming.{merged_conforms}
use Rattle.hd_merging.proofs.laws.merging_keeps_form.Goals as goal

pub returns-clause-closed : goal.returns-clause-closed
returns-clause-closed c = merged_closed

pub returns-clause-conforms : goal.returns-clause-conforms
returns-clause-conforms c = merged_conforms
