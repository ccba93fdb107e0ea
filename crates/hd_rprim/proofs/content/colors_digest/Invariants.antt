use Rattle.std.proofs.Common.{◌≡◌, drop, fold}
use Rattle.hd_rprim.specs.Digests.{mixed_color}
use Rattle.hd_rprim.proofs.content.colors_digest.Given as goal

-- the digest so far, with the rest mixed in, is that of all
abbrev pub invariant-loop-color : goal.invariant-loop-color
invariant-loop-color l = fold mixed_color l.digest (drop l.color-index l.colors) ≡ fold mixed_color 3 l.colors
