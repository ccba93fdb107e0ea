use Rattle.std.proofs.Common.{◌≡◌, length}
use Rattle.hd_usda.specs.used.Targets.{are_identifiers}
use Rattle.hd_usda.proofs.used.targets.are_identifiers.Given as goal

abbrev pub invariant-parts : goal.invariant-parts
invariant-parts l = are_identifiers l.rest ≡ are_identifiers l.text

abbrev pub decreases-parts : goal.decreases-parts
decreases-parts l = length l.rest
