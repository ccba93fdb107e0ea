use Rattle.std.proofs.Common.{◌++◌, ◌∙◌, ap, sym, append-nil}
use Rattle.hd_draws.proofs.FarPoints.{far_mesh}
use Rattle.hd_draws.proofs.meshes.push_mesh.Goals as goal

pub returns-then-are_far-clause-pushed : goal.returns-then-are_far-clause-pushed
returns-then-are_far-clause-pushed c =
    let mesh = c.args.mesh.now in
    let none = far_mesh mesh.points.now mesh.triangles.now mesh.colors.now mesh.faces c.args.matrix.now c.deref.result.now (c.deref.ensures.value ∙ c.in_ok-place_points.ensures) (c.are_far.ensures.0 c.if-are_far.true) in
    sym (ap (λ tris. c.args.tris.now ++ tris) none ∙ append-nil c.args.tris.now)
