use Rattle.hd_num.proofs.Shapes.{entry_within}
use Rattle.hd_num.proofs.matrix.Matrix.entry.Goals as goal

pub returns-clause-within : goal.returns-clause-within
returns-clause-within c = entry_within c.self.inside.rows c.args.row c.args.column c.self.invariant.within
