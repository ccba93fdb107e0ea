use Rattle.std.proofs.Common.{ap, ◌∙◌}
use Rattle.hd_num.specs.Matrices.{if_in_range, product}
use Rattle.hd_num.proofs.Shapes.{row_within_twice}
use Rattle.hd_num.proofs.matrix.Matrix.compose.Goals as goal

pub image-requires-clause-row_in : goal.image-requires-clause-row_in
image-requires-clause-row_in c = row_within_twice c.self.inside.rows 0 c.self.invariant.within

pub image-requires-2-clause-row_in : goal.image-requires-2-clause-row_in
image-requires-2-clause-row_in c = row_within_twice c.self.inside.rows 1 c.self.invariant.within

pub image-requires-3-clause-row_in : goal.image-requires-3-clause-row_in
image-requires-3-clause-row_in c = row_within_twice c.self.inside.rows 2 c.self.invariant.within

pub image-requires-4-clause-row_in : goal.image-requires-4-clause-row_in
image-requires-4-clause-row_in c = row_within_twice c.self.inside.rows 3 c.self.invariant.within

pub returns : goal.returns
unfolding product
returns c =
    c.of_rows.ensures ∙ rw (c.image.ensures, c.image-2.ensures, c.image-3.ensures, c.image-4.ensures) (ap (λ m. if_in_range (product m c.args.next.now)) c.self.view_is)
