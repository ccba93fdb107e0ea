use Rattle.hd_lexer.specs.declared.lexer.Kind.TheVariants.{CloseSquare}
use Rattle.hd_usda.specs.reading.Cursor.{count}
use Rattle.hd_usda.specs.used.Elements.{next_element}
use Rattle.hd_usda.proofs.Collecting.{Collects}
use Rattle.hd_usda.proofs.used.elements.rest_of_list.Given as goal

abbrev pub invariant-rest : goal.invariant-rest
invariant-rest g l = Collects CloseSquare (next_element g.T.Element.how) l.fn.found.items l.fn.cursor l.found.items l.cursor

abbrev pub decreases-rest : goal.decreases-rest
decreases-rest g l = count l.cursor
