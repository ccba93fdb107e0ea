use Rattle.hd_usda.specs.inner.PropertyViews.{name_view}
use Rattle.std.proofs.lemmas.Result.{err_from_is_err_and}
use Rattle.hd_lexer.specs.declared.lexer.Kind.TheVariants.{Colon}
use Rattle.hd_usda.specs.grammar.Header.{next_word}
use Rattle.hd_usda.proofs.Chaining.{chains_begin, chains_on, chains_end, chains_fails}
use Rattle.hd_usda.proofs.grammar.header.more_words.Goals as goal

pub words-init : goal.words-init
words-init c = record { chains = chains_begin Colon next_word (name_view c.args.name.now) c.args.cursor.now; ascii = c.requires }

pub words-preserved : goal.words-preserved
words-preserved c = record {
  chains = chains_on Colon next_word (name_view c.args.name.now) c.args.cursor.now (name_view c.words.name) c.words.cursor c.passes.result c.passes.new.self (name_view c.next_word.new.name) c.next_word.new.cursor
      c.words.invariant.chains c.passes.ensures.found c.passes.ensures.rest c.words-test.true c.in_ok-next_word.ensures.gives c.in_ok-next_word.ensures.fewer;
  ascii = c.in_ok-next_word.ensures.ascii;
}

pub returns-in_err-next_word-clause-gives : goal.returns-in_err-next_word-clause-gives
returns-in_err-next_word-clause-gives c =
    let p = err_from_is_err_and c.from_residual.result c.from_residual.ensures.1 in
    rw (p.1, p.2) (chains_fails Colon next_word (name_view c.args.name.now) c.args.cursor.now (name_view c.words.name) c.words.cursor c.passes.result c.passes.new.self c.in_err-next_word.field-0.0
    c.words.invariant.chains c.passes.ensures.found c.passes.ensures.rest c.words-test.true c.in_err-next_word.ensures.gives)

pub returns-clause-gives : goal.returns-clause-gives
returns-clause-gives c = chains_end Colon next_word (name_view c.args.name.now) c.args.cursor.now (name_view c.words.name) c.words.cursor c.passes.result c.passes.new.self
    c.words.invariant.chains c.passes.ensures.found c.passes.ensures.rest c.words-test.false
