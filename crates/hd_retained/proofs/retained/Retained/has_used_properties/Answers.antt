use Rattle.std.proofs.Common.{subst}
use Rattle.hd_retained.specs.Edits.{State}
use Rattle.hd_retained.specs.Layers.{AreUsed}
use Rattle.hd_retained.proofs.Used.{kept_used}
use Rattle.hd_retained.proofs.retained.Retained.has_used_properties.Goals as goal

pub returns : goal.returns
returns c = subst (λ (s : State). AreUsed s.layer) c.self.view_is (kept_used c.self.inside.prims c.self.invariant.sound)
