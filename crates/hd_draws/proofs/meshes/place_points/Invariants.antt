use Rattle.std.proofs.Common.{◌≡◌, map, take}
use Rattle.hd_num.specs.Points.{transform_point}
use Rattle.hd_draws.specs.DrawList.{if_near}
use Rattle.hd_draws.proofs.meshes.place_points.Given as goal

abbrev pub invariant-loop-point : goal.invariant-loop-point
invariant-loop-point l = l.placed.items ≡ map (λ p. if_near (transform_point p l.matrix)) (take l.point-index l.points)
