-- The same loop with what was read so far: `while !reader.passes(close) { form(reader, &mut state)?; }`.
use Rattle.std.proofs.Common.{◌≡◌, ℕ, zero, suc, ◌<◌, ◌≤◌, Result, Ok, Err, Bool, true, false, if◌then◌else◌, refl, sym, ap, ◌∙◌, arith}
use Rattle.hd_lexer.specs.declared.lexer.Kind.{Kind}
use Rattle.hd_layer.specs.declared.fault.LayerFault.{LayerFault}
use Rattle.hd_layer.specs.declared.fault.LayerFault.TheVariants as faults
use Rattle.hd_lexer.specs.Lexing.{Tokens}
use Rattle.hd_usda.specs.reading.Cursor.{is, rest, count, Fault, fault_in, Fails}
use Rattle.hd_usda.specs.reading.Loops.{all, all_by}

-- what is read from ts on, after s, is what was to be read from the start on, with as many rounds as are needed
pub record Collects {S : Type 0} (close : Kind) (form : S → Tokens → Result (S × Tokens) Fault) (first : S) (start : Tokens) (s : S) (ts : Tokens) : Type 0 where
  pub rounds : ℕ
  pub enough : count ts < rounds
  pub same : all_by close form rounds s ts ≡ all close form first start
  pub fewer : count ts ≤ count start

pub collects_begin : {S : Type 0} {close : Kind} {form : S → Tokens → Result (S × Tokens) Fault} {s : S} {ts : Tokens} → Collects close form s ts s ts
unfolding all
collects_begin {S} {close} {form} {s} {ts} = record { rounds = suc (count ts); enough = omega arith; same = refl; fewer = omega arith }

-- one more form was read; `found` is whether the closing token was, and u is where the reader is then
pub collects_on : {S : Type 0} {close : Kind} {form : S → Tokens → Result (S × Tokens) Fault} {first : S} {start : Tokens} {s : S} {ts : Tokens} {found : Bool} {u : Tokens} {r : S} {v : Tokens}
    → Collects close form first start s ts → found ≡ is close ts → u ≡ (if found then rest ts else ts) → found ≡ false
    → form s u ≡ Ok (r, v) → count v < count u → Collects close form first start r v
unfolding all_by
collects_on {S} {close} {form} {first} {start} {s} {ts} {found} {u} {r} {v} h e f other read fewer = step h.rounds h.enough h.same
  where
    stays : u ≡ ts
    stays = rw other at f

    lower : count v < count ts
    lower = let g : count u ≡ count ts = ap count stays in omega arith

    step : (n : ℕ) → count ts < n → all_by close form n s ts ≡ all close form first start → Collects close form first start r v
    step zero lt same = absurd (omega arith)
    step (suc n) lt same =
        let open_ : is close ts ≡ false = sym e ∙ other in
        let reads : form s ts ≡ Ok (r, v) = ap (form s) (sym stays) ∙ read in
        let one : all_by close form (suc n) s ts ≡ all_by close form n r v = rw (open_, reads) refl in
        let low = lower in
        let before = h.fewer in
        record { rounds = n; enough = omega arith; same = sym one ∙ same; fewer = omega arith }

-- the closing token came
pub collects_end : {S : Type 0} {close : Kind} {form : S → Tokens → Result (S × Tokens) Fault} {first : S} {start : Tokens} {s : S} {ts : Tokens} {found : Bool} {u : Tokens}
    → Collects close form first start s ts → found ≡ is close ts → u ≡ (if found then rest ts else ts) → found ≡ true
    → all close form first start ≡ Ok (s, u)
unfolding all_by
collects_end {S} {close} {form} {first} {start} {s} {ts} {found} {u} h e f closed = step h.rounds h.enough h.same
  where
    step : (n : ℕ) → count ts < n → all_by close form n s ts ≡ all close form first start → all close form first start ≡ Ok (s, u)
    step zero lt same = absurd (omega arith)
    step (suc n) lt same =
        let shut : is close ts ≡ true = sym e ∙ closed in
        let goes : u ≡ rest ts = rw closed at f in
        let one : all_by close form (suc n) s ts ≡ Ok (s, rest ts) = rw shut refl in
        sym same ∙ one ∙ ap (λ (v : Tokens). Ok (s, v)) (sym goes)

-- the form has a fault, or memory runs out
pub collects_fails : (err : LayerFault) → {S : Type 0} {close : Kind} {form : S → Tokens → Result (S × Tokens) Fault} {first : S} {start : Tokens} {s : S} {ts : Tokens} {found : Bool} {u : Tokens}
    → Collects close form first start s ts → found ≡ is close ts → u ≡ (if found then rest ts else ts) → found ≡ false
    → Fails err (form s u) → Fails err (all close form first start)
unfolding all_by
collects_fails faults.NoMemory {S} {close} {form} {first} {start} {s} {ts} {found} {u} h e f other read = tt
collects_fails (faults.At line why) {S} {close} {form} {first} {start} {s} {ts} {found} {u} h e f other read = step h.rounds h.enough h.same
  where
    stays : u ≡ ts
    stays = rw other at f

    step : (n : ℕ) → count ts < n → all_by close form n s ts ≡ all close form first start → all close form first start ≡ Err (fault_in line why)
    step zero lt same = absurd (omega arith)
    step (suc n) lt same =
        let open_ : is close ts ≡ false = sym e ∙ other in
        let reads : form s ts ≡ Err (fault_in line why) = ap (form s) (sym stays) ∙ read in
        let one : all_by close form (suc n) s ts ≡ Err (fault_in line why) = rw (open_, reads) refl in
        sym same ∙ one

-- for the goals at the begin of such a loop and after each round
pub ruleset collecting = (collects_begin, collects_on)
