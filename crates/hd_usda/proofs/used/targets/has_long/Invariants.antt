use Rattle.std.proofs.Common.{◌≡◌, length}
use Rattle.hd_usda.specs.used.Targets.{has_long}
use Rattle.hd_usda.proofs.used.targets.has_long.Given as goal

abbrev pub invariant-parts : goal.invariant-parts
invariant-parts l = has_long l.rest ≡ has_long l.text

abbrev pub decreases-parts : goal.decreases-parts
decreases-parts l = length l.rest
