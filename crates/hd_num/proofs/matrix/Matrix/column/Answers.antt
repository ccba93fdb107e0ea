use Rattle.std.proofs.Common.{ap, ◌^◌, ◌∙◌, IsTrue, sym, subst}
use Rattle.std.specs.List.{list_all}
use Rattle.hd_num.specs.Matrices.{column_of, is_within}
use Rattle.hd_num.proofs.Shapes.{column_kept, column_within}
use Rattle.hd_num.proofs.matrix.Matrix.column.Goals as goal

pub returns-clause-numbers : goal.returns-clause-numbers
returns-clause-numbers c =
    column_kept c.self.inside.rows c.args.column c.self.invariant.within ∙ ap (λ m. column_of m c.args.column) c.self.view_is

pub returns-clause-within : goal.returns-clause-within
returns-clause-within c =
    subst (λ column. IsTrue (list_all (is_within (2 ^ 30)) column)) (sym (column_kept c.self.inside.rows c.args.column c.self.invariant.within)) (column_within c.self.inside.rows c.args.column c.self.invariant.within)
