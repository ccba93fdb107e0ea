use Rattle.std.proofs.Common.{◌≡◌, not, filter, take}
use Rattle.std.specs.Str.{bytes_eq}
use Rattle.hd_retained.proofs.stored.others.Given as goal

abbrev pub invariant-loop-property : goal.invariant-loop-property
invariant-loop-property l = l.kept.items ≡ filter (λ p. not (bytes_eq l.name p.name)) (take l.property-index l.properties)
