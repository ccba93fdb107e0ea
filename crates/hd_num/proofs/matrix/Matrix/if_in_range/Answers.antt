use Rattle.std.proofs.Common.{ap, ◌∙◌}
use Rattle.hd_num.specs.Matrices.{if_in_range}
use Rattle.hd_num.proofs.Shapes.{bounded-in_range}
use Rattle.hd_num.proofs.matrix.Matrix.if_in_range.Goals as goal

pub returns : goal.returns
returns c = bounded-in_range c.self.inside.rows c.self.invariant.within ∙ ap if_in_range c.self.view_is
