use Rattle.std.proofs.Common.{◌≡◌, ◌^◌, Err, rules}
use Rattle.hd_draws.specs.declared.fault.DrawsFault.TheVariants.{Triangles}
use Rattle.hd_draws.specs.DrawList.{mesh_triangle}
use Rattle.hd_draws.proofs.Pushing.{filter_more}
use Rattle.hd_draws.proofs.meshes.push_triangles.Goals as goal

pub returns-in_err-push-clause-many : goal.returns-in_err-push-clause-many
returns-in_err-push-clause-many c = λ is.
    let refused : c.push.result ≡ Err Triangles = search rules in
    filter_more (mesh_triangle c.args.points.now c.args.colors.now c.args.faces) c.loop-triangle.tris _ c.args.triangles.now c.loop-triangle.triangle-index _ (2 ^ 20)
    c.loop-triangle-test.true c.loop-triangle.invariant (rw c.mesh_triangle.ensures at (c.push.ensures.many refused))
