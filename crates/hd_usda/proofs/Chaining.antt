-- A loop that reads one form after each separator: `while reader.passes(sep) { form(reader, &mut state)?; }`.
use Rattle.std.proofs.Common.{◌≡◌, ℕ, zero, suc, ◌<◌, ◌≤◌, List, [], ◌∷◌, length, Result, Ok, Err, Bool, true, false, if◌then◌else◌, refl, sym, ap, ◌∙◌, arith}
use Rattle.hd_lexer.specs.declared.lexer.Kind.{Kind}
use Rattle.hd_layer.specs.declared.fault.LayerFault.{LayerFault}
use Rattle.hd_layer.specs.declared.fault.LayerFault.TheVariants as faults
use Rattle.hd_lexer.specs.Lexing.{Tokens, Token}
use Rattle.hd_usda.specs.reading.Cursor.{is, rest, count, tail, Fault, fault_in, Fails}
use Rattle.hd_usda.specs.reading.Loops.{chain, chain_by}

-- what is read from ts on, after s, is what was to be read from the start on, with as many rounds as are needed
pub record Chains {S : Type 0} (sep : Kind) (form : S → Tokens → Result (S × Tokens) Fault) (first : S) (start : Tokens) (s : S) (ts : Tokens) : Type 0 where
  pub rounds : ℕ
  pub enough : count ts < rounds
  pub same : chain_by sep form rounds s ts ≡ chain sep form first start
  pub fewer : count ts ≤ count start

pub chains_begin : {S : Type 0} (sep : Kind) (form : S → Tokens → Result (S × Tokens) Fault) (s : S) (ts : Tokens) → Chains sep form s ts s ts
unfolding chain
chains_begin sep form s ts = record { rounds = suc (count ts); enough = omega arith; same = refl; fewer = omega arith }

-- one more form was read; `found` is whether the closing token was, and u is where the reader is then
no_more : (list : List Token) → length (tail list) ≤ length list
no_more [] = omega arith
no_more (t ∷ ts) = omega arith

pub chains_on : {S : Type 0} (sep : Kind) (form : S → Tokens → Result (S × Tokens) Fault) (first : S) (start : Tokens) (s : S) (ts : Tokens) (found : Bool) (u : Tokens) (r : S) (v : Tokens)
    → Chains sep form first start s ts → found ≡ is sep ts → u ≡ (if found then rest ts else ts) → found ≡ true
    → form s u ≡ Ok (r, v) → count v < count u → Chains sep form first start r v
unfolding chain_by
chains_on {S} sep form first start s ts found u r v h e f more read fewer = step h.rounds h.enough h.same
  where
    goes : u ≡ rest ts
    goes = rw more at f

    lower : count v < count ts
    lower = let g : count u ≡ count (rest ts) = ap count goes in let k = no_more ts.list in omega arith

    step : (n : ℕ) → count ts < n → chain_by sep form n s ts ≡ chain sep form first start → Chains sep form first start r v
    step zero lt same = absurd (omega arith)
    step (suc n) lt same =
        let comes : is sep ts ≡ true = sym e ∙ more in
        let reads : form s (rest ts) ≡ Ok (r, v) = ap (form s) (sym goes) ∙ read in
        let one : chain_by sep form (suc n) s ts ≡ chain_by sep form n r v = rw (comes, reads) refl in
        let before = h.fewer in
        let low = lower in
        record { rounds = n; enough = omega arith; same = sym one ∙ same; fewer = omega arith }

-- no separator came
pub chains_end : {S : Type 0} (sep : Kind) (form : S → Tokens → Result (S × Tokens) Fault) (first : S) (start : Tokens) (s : S) (ts : Tokens) (found : Bool) (u : Tokens)
    → Chains sep form first start s ts → found ≡ is sep ts → u ≡ (if found then rest ts else ts) → found ≡ false
    → chain sep form first start ≡ Ok (s, u)
unfolding chain_by
chains_end {S} sep form first start s ts found u h e f none = step h.rounds h.enough h.same
  where
    step : (n : ℕ) → count ts < n → chain_by sep form n s ts ≡ chain sep form first start → chain sep form first start ≡ Ok (s, u)
    step zero lt same = absurd (omega arith)
    step (suc n) lt same =
        let ends : is sep ts ≡ false = sym e ∙ none in
        let stays : u ≡ ts = rw none at f in
        let one : chain_by sep form (suc n) s ts ≡ Ok (s, ts) = rw ends refl in
        sym same ∙ one ∙ ap (λ (v : Tokens). Ok (s, v)) (sym stays)

-- the form has a fault, or memory runs out
pub chains_fails : {S : Type 0} (sep : Kind) (form : S → Tokens → Result (S × Tokens) Fault) (first : S) (start : Tokens) (s : S) (ts : Tokens) (found : Bool) (u : Tokens) (err : LayerFault)
    → Chains sep form first start s ts → found ≡ is sep ts → u ≡ (if found then rest ts else ts) → found ≡ true
    → Fails err (form s u) → Fails err (chain sep form first start)
unfolding chain_by
chains_fails {S} sep form first start s ts found u faults.NoMemory h e f more read = tt
chains_fails {S} sep form first start s ts found u (faults.At line why) h e f more read = step h.rounds h.enough h.same
  where
    goes : u ≡ rest ts
    goes = rw more at f

    step : (n : ℕ) → count ts < n → chain_by sep form n s ts ≡ chain sep form first start → chain sep form first start ≡ Err (fault_in line why)
    step zero lt same = absurd (omega arith)
    step (suc n) lt same =
        let comes : is sep ts ≡ true = sym e ∙ more in
        let reads : form s (rest ts) ≡ Err (fault_in line why) = ap (form s) (sym goes) ∙ read in
        let one : chain_by sep form (suc n) s ts ≡ Err (fault_in line why) = rw (comes, reads) refl in
        sym same ∙ one
