-- What the answer of a form says of the forms in it.
use Rattle.std.proofs.Common.{◌≡◌, ℕ, zero, suc, Result, Ok, Err, Bool, true, false, if◌then◌else◌, ◌⊎◌, inl, inr, refl, ap, subst}
use Rattle.hd_lexer.specs.declared.lexer.Kind.{Kind}
use Rattle.hd_layer.specs.declared.fault.LayerWhy.TheVariants.{Syntax}
use Rattle.hd_lexer.specs.Lexing.{Tokens}
use Rattle.hd_usda.specs.reading.Cursor.{◌>>=◌, Fault, is, rest, count, fault_at}
use Rattle.hd_usda.specs.reading.Loops.{all, all_by}

-- a first form answered, and what follows it did
pub record Answered {A B : Type 0} (o : Result A Fault) (f : A → Result B Fault) (y : B) : Type 0 where
  pub got : A
  pub first : o ≡ Ok got
  pub after : f got ≡ Ok y

pub answered : {A B : Type 0} (o : Result A Fault) (f : A → Result B Fault) {y : B} → (o >>= f) ≡ Ok y → Answered o f y
answered (Ok x) f e = record { got = x; first = refl; after = e }
answered (Err fault) f e = absurd (cc)

value_or : {A : Type 0} → A → Result A Fault → A
value_or x (Ok y) = y
value_or x (Err fault) = x

pub ok_same : {A : Type 0} {x y : A} → ◌≡◌ {A = Result A Fault} (Ok x) (Ok y) → x ≡ y
unfolding value_or
ok_same {A} {x} {y} e = ap (value_or x) e

pub no_answer : {A : Type 0} {fault : Fault} {y : A} {P : Type 0} → ◌≡◌ {A = Result A Fault} (Err fault) (Ok y) → P
no_answer e = absurd (cc)

-- the test that would have been a fault failed
pub past_fault : {A : Type 0} (c : Bool) (fault : Fault) (o : Result A Fault) {y : A} → (if c then Err fault else o) ≡ Ok y → (c ≡ false) × (o ≡ Ok y)
past_fault true fault o e = absurd (cc)
past_fault false fault o e = (refl, e)

-- the test without which there is a fault passed
pub past_test : {A : Type 0} (c : Bool) (o : Result A Fault) (fault : Fault) {y : A} → (if c then o else Err fault) ≡ Ok y → (c ≡ true) × (o ≡ Ok y)
past_test true o fault e = (refl, e)
past_test false o fault e = absurd (cc)

-- one of two forms answered
pub either : {A : Type 0} (c : Bool) (o p : Result A Fault) {y : A} → (if c then o else p) ≡ Ok y → ((c ≡ true) × (o ≡ Ok y)) ⊎ ((c ≡ false) × (p ≡ Ok y))
either true o p e = inl (refl, e)
either false o p e = inr (refl, e)

-- what is answered, if anything is, has the property
abbrev pub Leaves : {A : Type 0} → (A → Type 0) → Result A Fault → Type 0
Leaves {A} Q o = (x : A) → o ≡ Ok x → Q x

pub on_then : {A B : Type 0} (Q : A → Type 0) (R : B → Type 0) (o : Result A Fault) (f : A → Result B Fault) → Leaves Q o → ((x : A) → Q x → Leaves R (f x)) → Leaves R (o >>= f)
on_then Q R o f first after y e = let a = answered o f e in after a.got (first a.got a.first) y a.after

pub on_either : {A : Type 0} (Q : A → Type 0) (c : Bool) (o p : Result A Fault) → Leaves Q o → Leaves Q p → Leaves Q (if c then o else p)
on_either Q true o p a b = a
on_either Q false o p a b = b

-- the same with what the test said
pub on_test : {A : Type 0} (Q : A → Type 0) (c : Bool) (o p : Result A Fault) → (c ≡ true → Leaves Q o) → (c ≡ false → Leaves Q p) → Leaves Q (if c then o else p)
on_test Q true o p a b = a refl
on_test Q false o p a b = b refl

pub on_ok : {A : Type 0} (Q : A → Type 0) (x : A) → Q x → Leaves Q (Ok x)
on_ok Q x h y e = subst Q (ok_same e) h

pub on_fault : {A : Type 0} (Q : A → Type 0) (fault : Fault) → Leaves Q (Err fault)
on_fault Q fault x e = no_answer e

pub on_choice : {A : Type 0} (Q : A → Type 0) (c : Bool) (x y : A) → Q x → Q y → Q (if c then x else y)
on_choice Q true x y a b = a
on_choice Q false x y a b = b

-- any answer
abbrev pub Whatever : {A : Type 0} → A → Type 0
Whatever x = Unit {0}

pub on_any : {A : Type 0} (o : Result A Fault) → Leaves Whatever o
on_any o x e = tt

-- what holds before a repetition, and is kept by each of its forms and by the closing token, holds after it
pub on_all : {S : Type 0} (P : S × Tokens → Type 0) (close : Kind) (form : S → Tokens → Result (S × Tokens) Fault) → ((s : S) (ts : Tokens) → P (s, ts) → P (s, rest ts))
    → ((s : S) (ts : Tokens) → P (s, ts) → Leaves P (form s ts)) → (s : S) (ts : Tokens) → P (s, ts) → Leaves P (all close form s ts)
unfolding all all_by
on_all {S} P close form ends keeps s ts h = rounds (suc (count ts)) s ts h
  where
    rounds : (n : ℕ) (s : S) (ts : Tokens) → P (s, ts) → Leaves P (all_by close form n s ts)
    rounds zero s ts h = on_fault P (fault_at ts Syntax)
    rounds (suc n) s ts h = on_either P (is close ts) (Ok (s, rest ts)) (form s ts >>= λ r. all_by close form n r.0 r.1) (on_ok P (s, rest ts) (ends s ts h))
        (on_then P P (form s ts) (λ r. all_by close form n r.0 r.1) (keeps s ts h) (λ r g. rounds n r.0 r.1 g))
