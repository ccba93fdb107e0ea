use Rattle.std.proofs.Common.{◌≡◌, drop, fold}
use Rattle.hd_rprim.specs.Digests.{mixed_point}
use Rattle.hd_rprim.proofs.content.points_digest.Given as goal

-- the digest so far, with the rest mixed in, is that of all
abbrev pub invariant-loop-point : goal.invariant-loop-point
invariant-loop-point l = fold mixed_point l.digest (drop l.point-index l.points) ≡ fold mixed_point 1 l.points
