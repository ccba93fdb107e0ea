use Rattle.std.proofs.Common.{map, take}
use Rattle.hd_schema.proofs.Putting.{Holds}
use Rattle.hd_schema.proofs.authoring.to_container.Given as goal

abbrev pub invariant-loop-property : goal.invariant-loop-property
invariant-loop-property l = Holds l.values (map (λ property. property.now) (take l.property-index l.property-items))
