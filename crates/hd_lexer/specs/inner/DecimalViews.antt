-- The parts of a number as the reader holds them.
use Rattle.hd_lexer.specs.declared.decimal.Decimal as coded
use Rattle.hd_lexer.specs.Decimals.{Decimal}

abbrev pub decimal_view : coded.Decimal → Decimal
decimal_view d = record { negative = d.negative; whole = d.whole.now; fraction = d.fraction.now; exponent = d.exponent.now }
