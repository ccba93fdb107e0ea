use Rattle.hd_lexer.specs.declared.lexer.Kind.TheVariants.{Colon}
use Rattle.hd_usda.specs.reading.Cursor.{count}
use Rattle.hd_usda.specs.grammar.Value.{next_word}
use Rattle.hd_usda.proofs.Chaining.{Chains}
use Rattle.hd_usda.proofs.grammar.value.more_words.Given as goal

abbrev pub invariant-words : goal.invariant-words
invariant-words l = Chains Colon next_word tt l.fn.cursor tt l.cursor

abbrev pub decreases-words : goal.decreases-words
decreases-words l = count l.cursor
