use Rattle.std.proofs.Common.{◌≡◌, length}
use Rattle.hd_tokens.specs.Names.{is_joined}
use Rattle.hd_tokens.proofs.words.is_joined.Given as goal

abbrev pub invariant-parts : goal.invariant-parts
invariant-parts l = is_joined l.rest ≡ is_joined l.text

abbrev pub decreases-parts : goal.decreases-parts
decreases-parts l = length l.rest
