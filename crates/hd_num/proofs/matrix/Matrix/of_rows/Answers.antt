use Rattle.std.proofs.Common.{rules, sym, ◌∙◌}
use Rattle.hd_num.specs.Matrices.{if_in_range}
use Rattle.hd_num.proofs.matrix.Matrix.of_rows.Goals as goal

pub invariant_of-result : goal.invariant_of-result
invariant_of-result c =
    record { shaped = c.is_in_range.ensures.shaped; within = sym c.is_in_range.ensures.test ∙ c.if-is_in_range.true }

pub returns-then-is_in_range : goal.returns-then-is_in_range
unfolding if_in_range
returns-then-is_in_range c = search rules

pub returns-else-is_in_range : goal.returns-else-is_in_range
unfolding if_in_range
returns-else-is_in_range c = search rules
