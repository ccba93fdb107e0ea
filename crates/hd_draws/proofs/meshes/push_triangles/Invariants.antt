use Rattle.std.proofs.Common.{◌≡◌, ◌++◌, drop}
use Rattle.std.specs.List.{filter_map}
use Rattle.hd_draws.specs.DrawList.{mesh_triangle}
use Rattle.hd_draws.proofs.meshes.push_triangles.Given as goal

-- the triangles so far, and those of the triangles that are left, are all
abbrev pub invariant-loop-triangle : goal.invariant-loop-triangle
invariant-loop-triangle l =
    l.tris ++ filter_map (mesh_triangle l.points l.colors l.faces) (drop l.triangle-index l.triangles) ≡ l.fn.tris ++ filter_map (mesh_triangle l.points l.colors l.faces) l.triangles
