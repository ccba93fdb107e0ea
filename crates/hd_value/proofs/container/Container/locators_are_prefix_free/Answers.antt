use Rattle.hd_value.proofs.Getting.{root_entries, prefix_free_entries}
use Rattle.hd_value.proofs.container.Container.locators_are_prefix_free.Goals as goal

pub returns-clause-rootless : goal.returns-clause-rootless
returns-clause-rootless c = root_entries c.args.self.now c.entries.result.now c.entries.ensures.map

pub returns-clause-prefix_free : goal.returns-clause-prefix_free
returns-clause-prefix_free c = prefix_free_entries c.args.self.now c.entries.result.now c.entries.ensures.map c.entries.ensures.entries
