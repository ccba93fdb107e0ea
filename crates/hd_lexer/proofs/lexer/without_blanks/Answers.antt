use Rattle.std.proofs.Common.{◌∙◌, arith, sym}
use Rattle.hd_lexer.proofs.Skipping.{blanks_pass}
use Rattle.hd_lexer.proofs.lexer.without_blanks.Goals as goal

pub loop-rest-preserved : goal.loop-rest-preserved
loop-rest-preserved c = rw (c.passed.ensures.rest, c.passed.ensures.line) (blanks_pass c.loop-rest.at c.loop-rest.rest.now c.blank_more-more.result (omega arith) (sym c.is_blank.ensures ∙ c.if-not-is_blank.false) c.blank_more-more.ensures.count ∙ c.loop-rest.invariant)
