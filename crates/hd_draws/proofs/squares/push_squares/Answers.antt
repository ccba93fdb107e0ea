use Rattle.std.proofs.Common.{◌≡◌, ◌^◌, Err, length, rules}
use Rattle.hd_draws.specs.declared.fault.DrawsFault.TheVariants.{Triangles}
use Rattle.hd_draws.proofs.Pushing.{squares_more}
use Rattle.hd_draws.proofs.squares.push_squares.Goals as goal

pub returns-in_err-push_point-clause-many : goal.returns-in_err-push_point-clause-many
returns-in_err-push_point-clause-many c = λ is.
    let refused : c.push_point.result ≡ Err Triangles = search rules in
    squares_more (length c.args.points.now) c.args.colors.now c.args.matrix.now c.loop-number.tris _ c.args.points.now c.loop-number.number _ (2 ^ 20)
    c.loop-number-test.true c.loop-number.invariant (rw c.color_of-color.ensures at (c.push_point.ensures.many refused))
