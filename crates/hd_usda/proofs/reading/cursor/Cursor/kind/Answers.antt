use Rattle.std.proofs.Common.{◌∙◌, ap}
use Rattle.hd_usda.specs.reading.Cursor.{kind}
use Rattle.hd_usda.proofs.Heading.{kind_is}
use Rattle.hd_usda.proofs.reading.cursor.Cursor.kind.Goals as goal

pub returns : goal.returns
returns c = let r = c.self.inside in kind_is r.line r.rest.now r.first c.self.invariant ∙ ap kind c.self.view_is
