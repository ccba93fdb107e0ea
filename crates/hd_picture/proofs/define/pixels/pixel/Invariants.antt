use Rattle.std.proofs.Common.{◌≡◌, take}
use Rattle.hd_picture.specs.define.Pixels.{fragments, nearest}
use Rattle.hd_picture.proofs.define.pixels.pixel.Given as goal

-- the nearest of the triangles so far
abbrev pub invariant-loop-tri : goal.invariant-loop-tri
invariant-loop-tri l = l.best ≡ nearest (fragments l.draws.eye l.q (take l.tri-index l.tri-items))
