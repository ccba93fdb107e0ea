use Rattle.hd_lexer.specs.Decimals.{parts_of}
use Rattle.hd_lexer.proofs.Values.{zero_exact, one_exact, turn_exact, parts_digits}
use Rattle.hd_lexer.proofs.laws.numbers_are_judged_exactly.Goals as goal

pub returns-clause-zero : goal.returns-clause-zero
returns-clause-zero c text = zero_exact (parts_of text) (parts_digits text)

pub returns-clause-one : goal.returns-clause-one
returns-clause-one c text = one_exact (parts_of text) (parts_digits text)

pub returns-clause-turn : goal.returns-clause-turn
returns-clause-turn c text = turn_exact (parts_of text) (parts_digits text)
