-- Numbers of few digits.
use Rattle.std.proofs.Common.{◌≡◌, ℕ, ◌≤◌, List, length, true, ◌&&◌, nat_le, Result, Ok, rules, arith}
use Rattle.std.proofs.lemmas.Bool.{and_parts}
use Rattle.std.proofs.lemmas.Bool.Decides.{nat_tests}
use Rattle.std.proofs.lemmas.Str.Parse.{IsNumeralModel, numerals_by_value, parse_gives, digits_value_short}
use Rattle.std.specs.List.{list_all}
use Rattle.std.specs.Str.Parse.{digits_value, ParsesUnsigned}
use Rattle.hd_path.specs.Names.{is_digit}
use Rattle.hd_script.specs.Fields.{is_number}

own : IsNumeralModel (λ ds. list_all is_digit ds ≡ true) (digits_value 10)
own = numerals_by_value _ (search rules)

few_digits : {E : Type 0} (text : List ℕ) (r : Result ℕ E) → ParsesUnsigned 32 10 text r → list_all is_digit text ≡ true → 1 ≤ length text → length text ≤ 9 → r ≡ Ok (digits_value 10 text)
few_digits text r h digits some few = parse_gives own 32 text r h digits (omega arith) (omega (arith, digits_value_short own text 9 digits few))

at_most : (m n : ℕ) → nat_le m n ≡ true → m ≤ n
at_most m n h = grind (arith, nat_tests)

-- a number is parsed
pub number_is_parsed : {E : Type 0} (text : List ℕ) (r : Result ℕ E) → ParsesUnsigned 32 10 text r → is_number text ≡ true → r ≡ Ok (digits_value 10 text)
number_is_parsed text r h number =
    let outer = and_parts (nat_le 1 (length text) && nat_le (length text) 9) (list_all is_digit text) number in
    let inner = and_parts (nat_le 1 (length text)) (nat_le (length text) 9) outer.0 in
    few_digits text r h outer.1 (at_most 1 (length text) inner.0) (at_most (length text) 9 inner.1)
