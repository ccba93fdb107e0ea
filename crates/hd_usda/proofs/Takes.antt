-- What takes a token may be repeated with as many rounds as there are tokens, and one more.
use Rattle.std.proofs.Common.{◌≡◌, ℕ, zero, suc, ◌<◌, ◌≤◌, List, [], ◌∷◌, length, Result, Ok, Err, IfOk, Bool, true, false, if◌then◌else◌, refl, arith}
use Rattle.hd_lexer.specs.declared.lexer.Kind.{Kind}
use Rattle.hd_lexer.specs.declared.lexer.Kind.TheVariants.{End}
use Rattle.hd_lexer.specs.Lexing.{Token, Tokens}
use Rattle.hd_usda.specs.reading.Cursor.{◌>>=◌, Fault, Past, Form, is, same_kind, rest, tail, count, take, past_one}
use Rattle.hd_usda.specs.reading.Loops.{past, past_by, all, all_by, chain, chain_by}
use Rattle.hd_usda.proofs.Heading.{one_fewer}

-- fewer than n tokens are left
abbrev pub Below : ℕ → Tokens → Type 0
Below n ts = count ts < n

-- fewer than n tokens are left after a value
abbrev pub After : {A : Type 0} → ℕ → A × Tokens → Type 0
After n r = count r.1 < n

-- the tokens after a form are fewer
abbrev pub PastTakes : Past → Type 0
PastTakes form = (ts : Tokens) → IfOk (form ts) (Below (count ts))

abbrev pub Takes : {A : Type 0} → Form A → Type 0
Takes form = (ts : Tokens) → IfOk (form ts) (After (count ts))

-- the tokens after a form are not more: below each bound that is kept
abbrev pub PastKeeps : Past → Type 0
PastKeeps form = (n : ℕ) (ts : Tokens) → count ts < n → IfOk (form ts) (Below n)

abbrev pub Keeps : {A : Type 0} → Form A → Type 0
Keeps form = (n : ℕ) (ts : Tokens) → count ts < n → IfOk (form ts) (After n)

-- where a first step keeps P, and what follows it makes Q of that
pub chained : {A B : Type 0} (P : A → Type 0) (Q : B → Type 0) (f : A → Result B Fault) (o : Result A Fault) → IfOk o P → ((x : A) → P x → IfOk (f x) Q) → IfOk (o >>= f) Q
chained P Q f (Ok x) h k = k x h
chained P Q f (Err fault) h k = tt

-- where both ways of a choice keep Q
pub chosen : {B : Type 0} (Q : B → Type 0) (o p : Result B Fault) (b : Bool) → (b ≡ true → IfOk o Q) → (b ≡ false → IfOk p Q) → IfOk (if b then o else p) Q
chosen Q o p true h k = h refl
chosen Q o p false h k = k refl

-- where what follows a first step keeps Q, whatever that gives
pub whatever : {A B : Type 0} (Q : B → Type 0) (f : A → Result B Fault) (o : Result A Fault) → ((x : A) → IfOk (f x) Q) → IfOk (o >>= f) Q
whatever Q f (Ok x) k = k x
whatever Q f (Err fault) k = tt

past_raised : (m n : ℕ) (o : Result Tokens Fault) → m ≤ n → IfOk o (Below m) → IfOk o (Below n)
past_raised m n (Ok ts) low h = omega arith
past_raised m n (Err fault) low h = tt

raised : {A : Type 0} (m n : ℕ) (o : Result (A × Tokens) Fault) → m ≤ n → IfOk o (After m) → IfOk o (After n)
raised m n (Ok r) low h = omega arith
raised m n (Err fault) low h = tt

-- what takes a token keeps each bound
pub past_keeps : (form : Past) → PastTakes form → PastKeeps form
past_keeps form takes n ts low = past_raised (count ts) n (form ts) (omega arith) (takes ts)

pub keeps : {A : Type 0} (form : Form A) → Takes form → Keeps form
keeps form takes n ts low = raised (count ts) n (form ts) (omega arith) (takes ts)

-- the same of tokens that are not more than a bound
pub later : {A : Type 0} (form : Form A) → Takes form → (n : ℕ) (ts : Tokens) → count ts < suc n → IfOk (form ts) (After n)
later form takes n ts low = raised (count ts) n (form ts) (omega arith) (takes ts)

no_more : (list : List Token) → length (tail list) ≤ length list
no_more [] = omega arith
no_more (t ∷ ts) = omega arith

-- the tokens after the next
pub rest_keeps : (n : ℕ) (ts : Tokens) → count ts < n → count (rest ts) < n
rest_keeps n ts low = let h = no_more ts.list in omega arith

pub take_takes : (k : Kind) → same_kind End k ≡ false → PastTakes (take k)
unfolding take
take_takes k other ts = chosen (Below (count ts)) _ _ (is k ts) (λ found. one_fewer k ts other found) (λ _. tt)

pub take_keeps : (k : Kind) → same_kind End k ≡ false → PastKeeps (take k)
take_keeps k other = past_keeps (take k) (take_takes k other)

pub past_one_keeps : (k : Kind) (n : ℕ) (ts : Tokens) → count ts < n → count (past_one k ts) < n
unfolding past_one
past_one_keeps k n ts low = at (is k ts)
  where
    at : (b : Bool) → count (if b then rest ts else ts) < n
    at true = rest_keeps n ts low
    at false = low

-- the tokens after a repetition are not more
pub rounds_keep : (close : Kind) (form : Past) → PastKeeps form → (rounds : ℕ) → PastKeeps (past_by close form rounds)
unfolding past_by
rounds_keep close form keep zero n ts low = tt
rounds_keep close form keep (suc rounds) n ts low =
    chosen (Below n) _ _ (is close ts) (λ _. rest_keeps n ts low) (λ _.
    chained (Below n) (Below n) (past_by close form rounds) (form ts) (keep n ts low) (λ u low1. rounds_keep close form keep rounds n u low1))

pub past_form_keeps : (close : Kind) (form : Past) → PastKeeps form → PastKeeps (past close form)
unfolding past
past_form_keeps close form keep n ts low = rounds_keep close form keep (suc (count ts)) n ts low

all_rounds_keep : {S : Type 0} (close : Kind) (form : S → Form S) → ((s : S) → Keeps (form s)) → (rounds : ℕ) (s : S) → Keeps (all_by close form rounds s)
unfolding all_by
all_rounds_keep close form keep zero s n ts low = tt
all_rounds_keep close form keep (suc rounds) s n ts low =
    chosen (After n) _ _ (is close ts) (λ _. rest_keeps n ts low) (λ _.
    chained (After n) (After n) (λ r. all_by close form rounds r.0 r.1) (form s ts) (keep s n ts low) (λ r low1. all_rounds_keep close form keep rounds r.0 n r.1 low1))

pub all_keeps : {S : Type 0} (close : Kind) (form : S → Form S) → ((s : S) → Keeps (form s)) → (s : S) → Keeps (all close form s)
unfolding all
all_keeps close form keep s n ts low = all_rounds_keep close form keep (suc (count ts)) s n ts low

chain_rounds_keep : {S : Type 0} (separator : Kind) (form : S → Form S) → ((s : S) → Keeps (form s)) → (rounds : ℕ) (s : S) → Keeps (chain_by separator form rounds s)
unfolding chain_by
chain_rounds_keep separator form keep zero s n ts low = tt
chain_rounds_keep separator form keep (suc rounds) s n ts low =
    chosen (After n) _ _ (is separator ts) (λ _.
    chained (After n) (After n) (λ r. chain_by separator form rounds r.0 r.1) (form s (rest ts)) (keep s n (rest ts) (rest_keeps n ts low)) (λ r low1. chain_rounds_keep separator form keep rounds r.0 n r.1 low1))
    (λ _. low)

pub chain_keeps : {S : Type 0} (separator : Kind) (form : S → Form S) → ((s : S) → Keeps (form s)) → (s : S) → Keeps (chain separator form s)
unfolding chain
chain_keeps separator form keep s n ts low = chain_rounds_keep separator form keep (suc (count ts)) s n ts low
