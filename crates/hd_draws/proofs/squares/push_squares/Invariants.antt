use Rattle.std.proofs.Common.{◌≡◌, ◌++◌, drop, length}
use Rattle.hd_draws.specs.DrawList.{squares_from}
use Rattle.hd_draws.proofs.squares.push_squares.Given as goal

-- the triangles so far, and those of the points that are left, are all
abbrev pub invariant-loop-number : goal.invariant-loop-number
invariant-loop-number l =
    l.tris ++ squares_from l.number (length l.points) l.colors l.matrix (drop l.number l.points) ≡ l.fn.tris ++ squares_from 0 (length l.points) l.colors l.matrix l.points
