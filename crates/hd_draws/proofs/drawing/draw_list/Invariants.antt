use Rattle.std.proofs.Common.{◌≡◌, ◌++◌, drop, map}
use Rattle.std.specs.List.{flat_map}
use Rattle.hd_rprim.specs.Shown.{shown}
use Rattle.hd_draws.specs.DrawList.{shown_draws, draw_list}
use Rattle.hd_draws.proofs.drawing.draw_list.Given as goal

-- the triangles so far, and those of the rows that are left, are all
abbrev pub invariant-loop-i : goal.invariant-loop-i
invariant-loop-i l =
    l.tris ++ flat_map (shown_draws (map (shown l.registry) l.rows)) (drop l.i (map (shown l.registry) l.rows)) ≡ draw_list (map (shown l.registry) l.rows)
