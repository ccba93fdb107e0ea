-- A loop that reads one form after the other, until a closing token: `while !reader.passes(close) { form(reader)?; }`.
use Rattle.std.proofs.Common.{◌≡◌, ℕ, zero, suc, ◌<◌, ◌≤◌, Result, Ok, Err, Bool, true, false, if◌then◌else◌, refl, sym, ap, ◌∙◌, arith}
use Rattle.hd_lexer.specs.declared.lexer.Kind.{Kind}
use Rattle.hd_layer.specs.declared.fault.LayerFault.{LayerFault}
use Rattle.hd_layer.specs.declared.fault.LayerFault.TheVariants as faults
use Rattle.hd_lexer.specs.Lexing.{Tokens}
use Rattle.hd_usda.specs.reading.Cursor.{is, rest, count, Fault, fault_in, Fails}
use Rattle.hd_usda.specs.reading.Loops.{past, past_by}

-- what is read from ts on is what was to be read from the start on, with as many rounds as are needed
pub record Leads (close : Kind) (form : Tokens → Result Tokens Fault) (start ts : Tokens) : Type 0 where
  pub rounds : ℕ
  pub enough : count ts < rounds
  pub same : past_by close form rounds ts ≡ past close form start
  pub fewer : count ts ≤ count start

pub leads_begin : {close : Kind} {form : Tokens → Result Tokens Fault} {ts : Tokens} → Leads close form ts ts
unfolding past
leads_begin {close} {form} {ts} = record { rounds = suc (count ts); enough = omega arith; same = refl; fewer = omega arith }

-- one more form was read; `found` is whether the closing token was, and u is where the reader is then
pub leads_on : {close : Kind} {form : Tokens → Result Tokens Fault} {start ts : Tokens} {found : Bool} {u v : Tokens}
    → Leads close form start ts → found ≡ is close ts → u ≡ (if found then rest ts else ts) → found ≡ false
    → form u ≡ Ok v → count v < count u → Leads close form start v
unfolding past_by
leads_on {close} {form} {start} {ts} {found} {u} {v} h e f other read fewer = step h.rounds h.enough h.same
  where
    stays : u ≡ ts
    stays = rw other at f

    lower : count v < count ts
    lower = let g : count u ≡ count ts = ap count stays in omega arith

    step : (n : ℕ) → count ts < n → past_by close form n ts ≡ past close form start → Leads close form start v
    step zero lt same = absurd (omega arith)
    step (suc n) lt same =
        let open_ : is close ts ≡ false = sym e ∙ other in
        let reads : form ts ≡ Ok v = ap form (sym stays) ∙ read in
        let one : past_by close form (suc n) ts ≡ past_by close form n v = rw (open_, reads) refl in
        let low = lower in
        let before = h.fewer in
        record { rounds = n; enough = omega arith; same = sym one ∙ same; fewer = omega arith }

-- the closing token came
pub leads_end : {close : Kind} {form : Tokens → Result Tokens Fault} {start ts : Tokens} {found : Bool} {u : Tokens}
    → Leads close form start ts → found ≡ is close ts → u ≡ (if found then rest ts else ts) → found ≡ true
    → past close form start ≡ Ok u
unfolding past_by
leads_end {close} {form} {start} {ts} {found} {u} h e f closed = step h.rounds h.enough h.same
  where
    step : (n : ℕ) → count ts < n → past_by close form n ts ≡ past close form start → past close form start ≡ Ok u
    step zero lt same = absurd (omega arith)
    step (suc n) lt same =
        let shut : is close ts ≡ true = sym e ∙ closed in
        let goes : u ≡ rest ts = rw closed at f in
        let one : past_by close form (suc n) ts ≡ Ok (rest ts) = rw shut refl in
        sym same ∙ one ∙ ap (λ (v : Tokens). Ok v) (sym goes)

-- the form has a fault, or memory runs out
pub leads_fails : (err : LayerFault) → {close : Kind} {form : Tokens → Result Tokens Fault} {start ts : Tokens} {found : Bool} {u : Tokens}
    → Leads close form start ts → found ≡ is close ts → u ≡ (if found then rest ts else ts) → found ≡ false
    → Fails err (form u) → Fails err (past close form start)
unfolding past_by
leads_fails faults.NoMemory {close} {form} {start} {ts} {found} {u} h e f other read = tt
leads_fails (faults.At line why) {close} {form} {start} {ts} {found} {u} h e f other read = step h.rounds h.enough h.same
  where
    stays : u ≡ ts
    stays = rw other at f

    step : (n : ℕ) → count ts < n → past_by close form n ts ≡ past close form start → past close form start ≡ Err (fault_in line why)
    step zero lt same = absurd (omega arith)
    step (suc n) lt same =
        let open_ : is close ts ≡ false = sym e ∙ other in
        let reads : form ts ≡ Err (fault_in line why) = ap form (sym stays) ∙ read in
        let one : past_by close form (suc n) ts ≡ Err (fault_in line why) = rw (open_, reads) refl in
        sym same ∙ one

-- for the goals at the begin of such a loop and after each round
pub ruleset passing = (leads_begin, leads_on)
