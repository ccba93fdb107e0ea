use Rattle.std.proofs.Common.{◌∙◌, ap}
use Rattle.hd_registry.specs.Entries.{entry_at, if_used}
use Rattle.hd_registry.proofs.Collections.{unique_if_used, entry-if_used}
use Rattle.hd_registry.proofs.registry.Registry.collect.Goals as goal

pub invariant_of-self : goal.invariant_of-self
invariant_of-self g c = (unique_if_used c.self.inside.entries.items c.collect.new.entries.items c.collect.ensures.entries c.self.invariant.0, c.collect.ensures.indexed)

pub returns-clause-collects : goal.returns-clause-collects
returns-clause-collects g c = λ t. ap (λ es. entry_at es t) c.collect.ensures.entries ∙ entry-if_used c.self.inside.entries.items t ∙ ap (λ es. if_used (entry_at es t)) c.self.view_is
