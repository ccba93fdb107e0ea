use Rattle.std.proofs.Common.{◌∙◌, sym}
use Rattle.hd_usda.proofs.Heading.{one_fewer}
use Rattle.hd_usda.proofs.reading.cursor.Cursor.passes.Goals as goal

pub returns-then-found-clause-fewer : goal.returns-then-found-clause-fewer
returns-then-found-clause-fewer c = rw (c.if-found.true, c.next.ensures) (one_fewer c.args.kind c.args.self.now c.requires (sym c.is-found.ensures ∙ c.if-found.true))
