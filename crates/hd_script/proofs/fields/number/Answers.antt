use Rattle.std.proofs.Common.{◌≡◌, ◌∙◌, sym, Result, Ok, Err}
use Rattle.hd_script.proofs.Digits.{number_is_parsed}
use Rattle.hd_script.proofs.fields.number.Goals as goal

never_both : {A E : Type 0} (r : Result A E) (value : A) (fault : E) → r ≡ Ok value → r ≡ Err fault → ⊥
never_both r value fault is_ok is_err = cc

pub returns-in-Err : goal.returns-in-Err
returns-in-Err c = absurd (never_both c.parse.result _ _ (number_is_parsed c.args.text.now c.parse.result c.parse.ensures.value.0 (sym c.is_number.ensures ∙ c.if-not-is_number.false)) c.in-Err.is)
