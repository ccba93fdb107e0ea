use Rattle.std.proofs.Common.{◌∙◌, ap}
use Rattle.hd_lexer.specs.declared.lexer.Kind.TheVariants.{Word}
use Rattle.hd_usda.specs.reading.Cursor.{is, text}
use Rattle.hd_usda.proofs.Heading.{text_is}
use Rattle.hd_usda.proofs.WordTexts.{word_is_ascii}
use Rattle.hd_usda.proofs.reading.cursor.Cursor.text.Goals as goal

pub returns-clause-text : goal.returns-clause-text
returns-clause-text c = let r = c.self.inside in text_is r.line r.rest.now r.first c.self.invariant ∙ ap text c.self.view_is

pub returns-clause-word : goal.returns-clause-word
returns-clause-word c word = let r = c.self.inside in word_is_ascii r.line r.rest.now r.first c.self.invariant (ap (is Word) c.self.view_is ∙ word)
