use Rattle.std.proofs.Common.{◌≡◌, map, take}
use Rattle.hd_schema.proofs.authoring.by_name.Given as goal

abbrev pub invariant-loop-property : goal.invariant-loop-property
invariant-loop-property l = map (λ property. property.now) l.sorted.items ≡ take l.property-index l.properties
