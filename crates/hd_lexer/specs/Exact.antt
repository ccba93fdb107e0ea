-- Numbers that are judged by their exact value, their exponent included.
use Rattle.std.specs.Prelude.{ℕ, ◌+◌, ◌-◌, ◌%◌, List, Bool, ◌&&◌, ◌||◌, not, ◌==◌, nat_le, if◌then◌else◌, fold, drop}
use Rattle.std.specs.List.{list_all}
use Rattle.std.specs.Prelude.{length}
use Rattle.hd_lexer.specs.Lexing.{begins, sign_len}
use Rattle.hd_lexer.specs.Decimals.{Decimal, is_minus, is_zero_digit, digits_from}

-- the digits after the point
abbrev pub after_point : Decimal → List ℕ
after_point d = drop 1 d.fraction

-- each digit is 0
abbrev pub is_zero : Decimal → Bool
is_zero d = list_all is_zero_digit d.whole && list_all is_zero_digit (after_point d)

-- the sum of digits, and of what is before them
abbrev pub sum_from : ℕ → List ℕ → ℕ
sum_from n ds = fold (λ m d. m + (d - 48)) n ds

abbrev pub digit_sum : Decimal → ℕ
digit_sum d = sum_from (sum_from 0 d.whole) (after_point d)

-- how many digits 0 end the digits, where so many end those before them
abbrev pub zeros_from : ℕ → List ℕ → ℕ
zeros_from n ds = fold (λ m d. if d == 48 then m + 1 else 0) n ds

abbrev pub last_zeros : Decimal → ℕ
last_zeros d = zeros_from (zeros_from 0 d.whole) (after_point d)

-- the exponent after its letter, and the number that it says
abbrev pub signed_exponent : Decimal → List ℕ
signed_exponent d = drop 1 d.exponent

abbrev pub exponent_of : Decimal → ℕ
exponent_of d = digits_from 0 (drop (sign_len (signed_exponent d)) (signed_exponent d))

-- by how many places the last digit other than 0 is lower, for the digits after the point and an exponent below 0
abbrev pub places_left : Decimal → ℕ
places_left d = length (after_point d) + (if begins is_minus (signed_exponent d) then exponent_of d else 0)

-- by how many places it is higher, for the zeros after it and an exponent above 0
abbrev pub places_right : Decimal → ℕ
places_right d = last_zeros d + (if begins is_minus (signed_exponent d) then 0 else exponent_of d)

-- a multiple of 90: 0, or nine divides the sum of the digits and the last digit other than 0 says tens or more
abbrev pub is_turn : Decimal → Bool
is_turn d = is_zero d || ((digit_sum d % 9 == 0) && nat_le (places_left d + 1) (places_right d))

-- 1: the only digit other than 0 is a 1 that says ones
abbrev pub is_one : Decimal → Bool
is_one d = not d.negative && (digit_sum d == 1) && (places_left d == places_right d)
