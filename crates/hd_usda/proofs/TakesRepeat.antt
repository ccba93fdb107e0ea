-- A form that takes a token repeats as its grammar says, whatever number of rounds beyond the tokens bounds it.
use Rattle.std.proofs.Common.{◌≡◌, ℕ, zero, suc, ◌<◌, ◌≤◌, Result, Ok, Err, IfOk, if◌then◌else◌, refl, ap, arith}
use Rattle.hd_lexer.specs.declared.lexer.Kind.{Kind}
use Rattle.hd_lexer.specs.Lexing.{Tokens}
use Rattle.hd_usda.specs.reading.Cursor.{◌>>=◌, Fault, Past, Form, is, rest, count}
use Rattle.hd_usda.specs.reading.Loops.{past, past_by, all, all_by, chain, chain_by}
use Rattle.hd_usda.specs.Laws.{PastRepeats, AllRepeats, ChainRepeats}
use Rattle.hd_usda.proofs.Takes.{Below, After, PastTakes, Takes, rest_keeps}

-- two continuations that agree on what a first step gives
same_chain : {A B : Type 0} (P : A → Type 0) (f g : A → Result B Fault) (o : Result A Fault) → IfOk o P → ((x : A) → P x → f x ≡ g x) → (o >>= f) ≡ (o >>= g)
same_chain P f g (Ok x) h k = k x h
same_chain P f g (Err fault) h k = refl

past_agrees : (close : Kind) (form : Past) → PastTakes form → (m n : ℕ) (ts : Tokens) → count ts < m → count ts < n → past_by close form m ts ≡ past_by close form n ts
unfolding past_by
past_agrees close form takes zero n ts low high = absurd (omega arith)
past_agrees close form takes (suc m) zero ts low high = absurd (omega arith)
past_agrees close form takes (suc m) (suc n) ts low high =
    ap (λ o. if is close ts then Ok (rest ts) else o)
    (same_chain (Below (count ts)) (past_by close form m) (past_by close form n) (form ts) (takes ts) (λ u fewer.
    past_agrees close form takes m n u (omega arith) (omega arith)))

pub past_repeats : (close : Kind) (form : Past) → PastTakes form → PastRepeats close form
unfolding past past_by
past_repeats close form takes = record {
  again = λ ts.
      ap (λ o. if is close ts then Ok (rest ts) else o)
      (same_chain (Below (count ts)) (past_by close form (count ts)) (past close form) (form ts) (takes ts) (λ u fewer.
      past_agrees close form takes (count ts) (suc (count u)) u fewer (omega arith)));
  any_bound = λ n ts low. past_agrees close form takes n (suc (count ts)) ts low (omega arith);
}

all_agrees : {S : Type 0} (close : Kind) (form : S → Form S) → ((s : S) → Takes (form s)) → (m n : ℕ) (s : S) (ts : Tokens) → count ts < m → count ts < n → all_by close form m s ts ≡ all_by close form n s ts
unfolding all_by
all_agrees close form takes zero n s ts low high = absurd (omega arith)
all_agrees close form takes (suc m) zero s ts low high = absurd (omega arith)
all_agrees close form takes (suc m) (suc n) s ts low high =
    ap (λ o. if is close ts then Ok (s, rest ts) else o)
    (same_chain (After (count ts)) (λ r. all_by close form m r.0 r.1) (λ r. all_by close form n r.0 r.1) (form s ts) (takes s ts) (λ r fewer.
    all_agrees close form takes m n r.0 r.1 (omega arith) (omega arith)))

pub all_repeats : {S : Type 0} (close : Kind) (form : S → Form S) → ((s : S) → Takes (form s)) → AllRepeats close form
unfolding all all_by
all_repeats close form takes = record {
  again = λ s ts.
      ap (λ o. if is close ts then Ok (s, rest ts) else o)
      (same_chain (After (count ts)) (λ r. all_by close form (count ts) r.0 r.1) (λ r. all close form r.0 r.1) (form s ts) (takes s ts) (λ r fewer.
      all_agrees close form takes (count ts) (suc (count r.1)) r.0 r.1 fewer (omega arith)));
  any_bound = λ n s ts low. all_agrees close form takes n (suc (count ts)) s ts low (omega arith);
}

-- after the separator
after : (m : ℕ) (ts : Tokens) → count ts < suc m → count (rest ts) ≤ m
after m ts low = let h = rest_keeps (suc m) ts low in omega arith

chain_agrees : {S : Type 0} (separator : Kind) (form : S → Form S) → ((s : S) → Takes (form s)) → (m n : ℕ) (s : S) (ts : Tokens) → count ts < m → count ts < n → chain_by separator form m s ts ≡ chain_by separator form n s ts
unfolding chain_by
chain_agrees separator form takes zero n s ts low high = absurd (omega arith)
chain_agrees separator form takes (suc m) zero s ts low high = absurd (omega arith)
chain_agrees separator form takes (suc m) (suc n) s ts low high =
    let left = after m ts low in
    let right = after n ts high in
    ap (λ o. if is separator ts then o else Ok (s, ts))
    (same_chain (After (count (rest ts))) (λ r. chain_by separator form m r.0 r.1) (λ r. chain_by separator form n r.0 r.1) (form s (rest ts)) (takes s (rest ts)) (λ r fewer.
    chain_agrees separator form takes m n r.0 r.1 (omega arith) (omega arith)))

pub chain_repeats : {S : Type 0} (separator : Kind) (form : S → Form S) → ((s : S) → Takes (form s)) → ChainRepeats separator form
unfolding chain chain_by
chain_repeats separator form takes = record {
  again = λ s ts.
      let left = after (count ts) ts (omega arith) in
      ap (λ o. if is separator ts then o else Ok (s, ts))
      (same_chain (After (count (rest ts))) (λ r. chain_by separator form (count ts) r.0 r.1) (λ r. chain separator form r.0 r.1) (form s (rest ts)) (takes s (rest ts)) (λ r fewer.
      chain_agrees separator form takes (count ts) (suc (count r.1)) r.0 r.1 (omega arith) (omega arith)));
  any_bound = λ n s ts low. chain_agrees separator form takes n (suc (count ts)) s ts low (omega arith);
}
