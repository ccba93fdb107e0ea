use Rattle.hd_lexer.specs.declared.lexer.Kind.TheVariants.{CloseRound}
use Rattle.hd_usda.specs.reading.Cursor.{count}
use Rattle.hd_usda.specs.grammar.Metadata.{entry}
use Rattle.hd_usda.proofs.Passing.{Leads}
use Rattle.hd_usda.proofs.grammar.metadata.entries.Given as goal

abbrev pub invariant-rest : goal.invariant-rest
invariant-rest l = Leads CloseRound entry l.fn.cursor l.cursor

abbrev pub decreases-rest : goal.decreases-rest
decreases-rest l = count l.cursor
