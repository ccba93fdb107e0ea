use Rattle.std.proofs.Common.{◌≡◌, ◌+◌, ◌∷◌, ◌^◌, ◌∙◌, drop, Err, ap, sym, rules}
use Rattle.std.proofs.lemmas.List.{drop_more}
use Rattle.hd_num.specs.Matrices.{Rows}
use Rattle.hd_draws.specs.declared.fault.DrawsFault.TheVariants.{Triangles}
use Rattle.hd_draws.specs.DrawList.{placed_triangles}
use Rattle.hd_draws.proofs.Pushing.{flat_more}
use Rattle.hd_draws.proofs.drawing.push_placed.Goals as goal

pub returns-in_err-push_shape-clause-many : goal.returns-in_err-push_shape-clause-many
returns-in_err-push_shape-clause-many c = λ is.
    let refused : c.push_shape.result ≡ Err Triangles = search rules in
    let geometry = c.args.geometry.now in
    let i = c.loop-matrix.matrix-index in
    let matrix = c.matrix-item.result in
    let next : drop i c.args.matrices.now ≡ matrix ∷ drop (i + 1) c.args.matrices.now =
    drop_more c.args.matrices.now i matrix c.loop-matrix-test.true ∙ ap (λ (m : Rows). m ∷ drop (i + 1) c.args.matrices.now) (sym c.matrix-item.is)
    in
    flat_more (placed_triangles geometry.shape geometry.faces geometry.points.now geometry.triangles.now geometry.colors.now) c.loop-matrix.tris _ matrix _ _ (2 ^ 20)
    next c.loop-matrix.invariant (c.push_shape.ensures.many refused)
