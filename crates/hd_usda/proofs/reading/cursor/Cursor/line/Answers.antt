use Rattle.std.proofs.Common.{◌∙◌, ap}
use Rattle.hd_usda.specs.reading.Cursor.{line_of}
use Rattle.hd_usda.proofs.Heading.{line_is}
use Rattle.hd_usda.proofs.reading.cursor.Cursor.line.Goals as goal

pub returns : goal.returns
returns c = let r = c.self.inside in line_is r.line r.rest.now r.first c.self.invariant ∙ ap line_of c.self.view_is
