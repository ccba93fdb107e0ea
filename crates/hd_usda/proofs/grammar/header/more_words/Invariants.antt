use Rattle.hd_usda.specs.inner.PropertyViews.{name_view}
use Rattle.hd_lexer.specs.declared.lexer.Kind.TheVariants.{Colon}
use Rattle.hd_usda.specs.reading.Cursor.{count}
use Rattle.hd_usda.specs.grammar.Header.{next_word}
use Rattle.hd_usda.proofs.Chaining.{Chains}
use Rattle.std.proofs.Common.{IsAscii}
use Rattle.hd_usda.proofs.grammar.header.more_words.Given as goal

abbrev pub invariant-words : goal.invariant-words
invariant-words l = record {
  chains : Chains Colon next_word (name_view l.fn.name) l.fn.cursor (name_view l.name) l.cursor;
  ascii : IsAscii l.name.name.items;
}

abbrev pub decreases-words : goal.decreases-words
decreases-words l = count l.cursor
