use Rattle.hd_lexer.specs.declared.lexer.Kind.TheVariants.{CloseCurly}
use Rattle.hd_usda.specs.reading.Cursor.{count}
use Rattle.hd_usda.specs.grammar.Attribute.{next_sample}
use Rattle.hd_usda.proofs.Passing.{Leads}
use Rattle.hd_usda.proofs.grammar.attribute.rest_of_samples.Given as goal

abbrev pub invariant-rest : goal.invariant-rest
invariant-rest l = Leads CloseCurly next_sample l.fn.cursor l.cursor

abbrev pub decreases-rest : goal.decreases-rest
decreases-rest l = count l.cursor
