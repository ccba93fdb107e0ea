-- The numbers, triples and rows that a reader may answer are within their bounds.
use Rattle.std.proofs.Common.{◌≡◌, ℕ, ◌%◌, Bool, true, false, ◌&&◌, not, ◌==◌, if◌then◌else◌, nat_le, ℤ, unsigned_abs, List, [], ◌∷◌, Some, None, Ok, Err, refl, ap}
use Rattle.std.specs.List.{list_all}
use Rattle.std.proofs.lemmas.Bool.{and_from, not-false}
use Rattle.hd_num.specs.declared.vector.Vec3.{Vec3}
use Rattle.hd_num.specs.Matrices.{Rows}
use Rattle.hd_lexer.specs.declared.lexer.Kind.TheVariants.{Number, OpenRound, CloseRound, Comma}
use Rattle.hd_layer.specs.declared.fault.LayerWhy.TheVariants.{LeftOut, Fraction}
use Rattle.hd_layer.specs.declared.limits.Which.TheVariants.{Literal}
use Rattle.hd_usda.specs.declared.used.numbers.NumberRule.{NumberRule}
use Rattle.hd_usda.specs.declared.used.numbers.NumberRule.TheVariants.{Any, Turn, Zero, One}
use Rattle.hd_lexer.specs.Lexing.{Tokens}
use Rattle.hd_layer.specs.Limits.{limit_of}
use Rattle.hd_usda.specs.reading.Cursor.{is, rest, text, line_of, fault_in, fault_at}
use Rattle.hd_lexer.specs.Decimals.{Decimal, parts_of, amount, is_fractional, within_limit}
use Rattle.hd_usda.specs.used.Numbers.{is_non_finite_text, wrong_token_fault, need, allows, number_within, checked_number, number, triple, row}
use Rattle.hd_usda.specs.used.Values.{rows}
use Rattle.hd_layer.specs.WellFormed.{is_small, is_quarters, each_of, are_small_rows}
use Rattle.hd_usda.proofs.Answering.{answered, ok_same, no_answer, past_fault, past_test, Leaves, Whatever, on_then, on_any, on_ok}
use Rattle.hd_lexer.proofs.Turns.{turn_divides}

-- a token that was needed came
pub needed : (k : _) (ts u : Tokens) → need true k ts ≡ Ok u → is k ts ≡ true
unfolding need
needed k ts u e = (past_test (is k ts) (Ok (rest ts)) (fault_at ts (wrong_token_fault true ts)) e).0

-- a number that a finite text gives
record Known (demand : NumberRule) (d : Decimal) (n : ℤ) : Type 0 where
  meets_it : allows demand d ≡ true
  whole : is_fractional d ≡ false
  small : is_small n ≡ true
  value : amount d ≡ n

within : (line : ℕ) (small : Bool) (m n : ℤ) → number_within line (if small then Some m else None) ≡ Ok n → (small ≡ true) × (m ≡ n)
within line true m n e = (refl, ok_same e)
within line false m n e = no_answer e

is_known : (demand : NumberRule) (line : ℕ) (d : Decimal) (n : ℤ) → checked_number demand line d ≡ Ok n → Known demand d n
is_known demand line d n e =
    let met = past_fault (not (allows demand d)) (fault_in line LeftOut) (if is_fractional d then Err (fault_in line Fraction) else number_within line (within_limit (amount d))) e in
    let whole = past_fault (is_fractional d) (fault_in line Fraction) (number_within line (within_limit (amount d))) met.1 in
    let size = within line (nat_le (unsigned_abs (amount d)) (limit_of Literal)) (amount d) n whole.1 in
    record { meets_it = not-false (allows demand d) met.0; whole = whole.0; small = rw size.1 at size.0; value = size.1 }

number_known : (demand : NumberRule) (ts : Tokens) (n : ℤ) (u : Tokens) → number demand ts ≡ Ok (n, u) → Known demand (parts_of (text ts)) n
unfolding number
number_known demand ts n u e =
    let a = answered (need true Number ts) _ e in
    let b = answered (if is_non_finite_text (text ts) then Err (fault_at ts LeftOut) else checked_number demand (line_of ts) (parts_of (text ts))) _ a.after in
    let c = past_fault (is_non_finite_text (text ts)) (fault_at ts LeftOut) (checked_number demand (line_of ts) (parts_of (text ts))) b.first in
    let same : b.got ≡ n = ap (λ z. z.0) (ok_same b.after) in
    rw same at (is_known demand (line_of ts) (parts_of (text ts)) b.got c.1)

pub number_begins : (demand : NumberRule) (ts : Tokens) (n : ℤ) (u : Tokens) → number demand ts ≡ Ok (n, u) → is Number ts ≡ true
unfolding number
number_begins demand ts n u e = let a = answered (need true Number ts) _ e in needed Number ts a.got a.first

pub number_small : (demand : NumberRule) (ts : Tokens) (n : ℤ) (u : Tokens) → number demand ts ≡ Ok (n, u) → is_small n ≡ true
number_small demand ts n u e = (number_known demand ts n u e).small

pub number_quarters : (ts : Tokens) (n : ℤ) (u : Tokens) → number Turn ts ≡ Ok (n, u) → is_quarters n ≡ true
number_quarters ts n u e =
    let k = number_known Turn ts n u e in
    let divides = turn_divides (parts_of (text ts)) k.whole k.meets_it in
    and_from (is_small n) (unsigned_abs n % 90 == 0) k.small (rw k.value at divides)

pub triple_begins : (demand : NumberRule) (ts : Tokens) (v : Vec3) (u : Tokens) → triple demand ts ≡ Ok (v, u) → is OpenRound ts ≡ true
unfolding triple
triple_begins demand ts v u e = let a = answered (need true OpenRound ts) _ e in needed OpenRound ts a.got a.first

-- a number, a triple, a row and the rows of a matrix that pass, with the tokens after them
abbrev Passes : (ℤ → Bool) → ℤ × Tokens → Type 0
Passes test q = test q.0 ≡ true

abbrev Each : (ℤ → Bool) → Vec3 × Tokens → Type 0
Each test q = each_of test q.0 ≡ true

abbrev IsRow : List ℤ × Tokens → Type 0
IsRow q = list_all is_small q.0 ≡ true

abbrev AreRows : Rows × Tokens → Type 0
AreRows q = are_small_rows q.0 ≡ true

-- what each number passes, each component does
each_reads : (demand : NumberRule) (test : ℤ → Bool) → ((ts : Tokens) → Leaves (Passes test) (number demand ts)) → (ts : Tokens) → Leaves (Each test) (triple demand ts)
unfolding triple
each_reads demand test each ts =
    on_then Whatever (Each test) (need true OpenRound ts) _ (on_any (need true OpenRound ts)) (λ u _.
    on_then (Passes test) (Each test) (number demand u) _ (each u) (λ x a.
    on_then Whatever (Each test) (need true Comma x.1) _ (on_any (need true Comma x.1)) (λ v _.
    on_then (Passes test) (Each test) (number demand v) _ (each v) (λ y b.
    on_then Whatever (Each test) (need true Comma y.1) _ (on_any (need true Comma y.1)) (λ w _.
    on_then (Passes test) (Each test) (number demand w) _ (each w) (λ z c.
    on_then Whatever (Each test) (need true CloseRound z.1) _ (on_any (need true CloseRound z.1)) (λ end _.
    on_ok (Each test) (record { x = x.0; y = y.0; z = z.0 }, end) (and_from (test x.0 && test y.0) (test z.0) (and_from (test x.0) (test y.0) a b) c))))))))

pub triple_each : (demand : NumberRule) (test : ℤ → Bool) → ((ts : Tokens) (n : ℤ) (u : Tokens) → number demand ts ≡ Ok (n, u) → test n ≡ true)
    → (ts : Tokens) (v : Vec3) (u : Tokens) → triple demand ts ≡ Ok (v, u) → each_of test v ≡ true
triple_each demand test each ts v u e = each_reads demand test (λ ts x e. each ts x.0 x.1 e) ts (v, u) e

small : (demand : NumberRule) (ts : Tokens) → Leaves (Passes is_small) (number demand ts)
small demand ts x e = number_small demand ts x.0 x.1 e

row_reads : (last : NumberRule) (ts : Tokens) → Leaves IsRow (row last ts)
unfolding row
row_reads last ts =
    on_then Whatever IsRow (need true OpenRound ts) _ (on_any (need true OpenRound ts)) (λ u _.
    on_then (Passes is_small) IsRow (number Any u) _ (small Any u) (λ x a.
    on_then Whatever IsRow (need true Comma x.1) _ (on_any (need true Comma x.1)) (λ v _.
    on_then (Passes is_small) IsRow (number Any v) _ (small Any v) (λ y b.
    on_then Whatever IsRow (need true Comma y.1) _ (on_any (need true Comma y.1)) (λ w _.
    on_then (Passes is_small) IsRow (number Any w) _ (small Any w) (λ z c.
    on_then Whatever IsRow (need true Comma z.1) _ (on_any (need true Comma z.1)) (λ k _.
    on_then Whatever IsRow (number last k) _ (on_any (number last k)) (λ l _.
    on_then Whatever IsRow (need true CloseRound l.1) _ (on_any (need true CloseRound l.1)) (λ end _.
    on_ok IsRow (x.0 ∷ y.0 ∷ z.0 ∷ [], end) (rw (a, b, c) refl))))))))))

rows_read : (ts : Tokens) → Leaves AreRows (rows ts)
unfolding rows
rows_read ts =
    on_then Whatever AreRows (need true OpenRound ts) _ (on_any (need true OpenRound ts)) (λ u _.
    on_then IsRow AreRows (row Zero u) _ (row_reads Zero u) (λ x a.
    on_then Whatever AreRows (need true Comma x.1) _ (on_any (need true Comma x.1)) (λ v _.
    on_then IsRow AreRows (row Zero v) _ (row_reads Zero v) (λ y b.
    on_then Whatever AreRows (need true Comma y.1) _ (on_any (need true Comma y.1)) (λ w _.
    on_then IsRow AreRows (row Zero w) _ (row_reads Zero w) (λ z c.
    on_then Whatever AreRows (need true Comma z.1) _ (on_any (need true Comma z.1)) (λ k _.
    on_then IsRow AreRows (row One k) _ (row_reads One k) (λ o d.
    on_then Whatever AreRows (need true CloseRound o.1) _ (on_any (need true CloseRound o.1)) (λ end _.
    on_ok AreRows (x.0 ∷ y.0 ∷ z.0 ∷ o.0 ∷ [], end) (rw (a, b, c, d) refl))))))))))

pub rows_are : (ts : Tokens) (m : Rows) (u : Tokens) → rows ts ≡ Ok (m, u) → are_small_rows m ≡ true
rows_are ts m u e = rows_read ts (m, u) e
