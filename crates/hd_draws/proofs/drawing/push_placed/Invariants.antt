use Rattle.std.proofs.Common.{◌≡◌, ◌++◌, drop}
use Rattle.std.specs.List.{flat_map}
use Rattle.hd_draws.specs.DrawList.{placed_triangles}
use Rattle.hd_draws.proofs.drawing.push_placed.Given as goal

-- the triangles so far, and those of the matrices that are left, are all
abbrev pub invariant-loop-matrix : goal.invariant-loop-matrix
invariant-loop-matrix l =
    l.tris ++ flat_map (placed_triangles l.geometry.shape l.geometry.faces l.geometry.points.now l.geometry.triangles.now l.geometry.colors.now) (drop l.matrix-index l.matrices)
    ≡ l.fn.tris ++ flat_map (placed_triangles l.geometry.shape l.geometry.faces l.geometry.points.now l.geometry.triangles.now l.geometry.colors.now) l.matrices
