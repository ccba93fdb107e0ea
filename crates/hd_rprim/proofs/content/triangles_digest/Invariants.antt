use Rattle.std.proofs.Common.{◌≡◌, drop, fold}
use Rattle.hd_rprim.specs.Digests.{mixed_triangle}
use Rattle.hd_rprim.proofs.content.triangles_digest.Given as goal

-- the digest so far, with the rest mixed in, is that of all
abbrev pub invariant-loop-triangle : goal.invariant-loop-triangle
invariant-loop-triangle l = fold mixed_triangle l.digest (drop l.triangle-index l.triangles) ≡ fold mixed_triangle 2 l.triangles
