-- Places among others.
use Rattle.std.proofs.Common.{◌≡◌, ◌≢◌, ℕ, ◌<◌, suc, zero, Bool, true, false, not, cond, ◌||◌, ◌==◌, List, [], ◌∷◌, length, filter, drop, get_or, refl, sym, ◌∙◌, ap, arith}
use Rattle.std.specs.Prelude.{nat_eq}
use Rattle.std.proofs.lemmas.Bool.{ne_eqb, eqb-true}
use Rattle.hd_registry.specs.inner.Indexes.{is_among}

-- the others stay among what is left without a place
pub among_others : (place : ℕ) (xs : List ℕ) (p : ℕ) → p ≢ place → is_among xs p ≡ true → is_among (filter (λ x. not (x == place)) xs) p ≡ true
among_others place [] p n h = h
among_others place (x ∷ xs) p n h = by (x == place) refl (x == p) refl h (among_others place xs p n)
  where
    by : (b : Bool) → (x == place) ≡ b → (c : Bool) → (x == p) ≡ c → (c || is_among xs p) ≡ true
        → (is_among xs p ≡ true → is_among (filter (λ x. not (x == place)) xs) p ≡ true)
        → is_among (cond (not b) (x ∷ filter (λ x. not (x == place)) xs) (filter (λ x. not (x == place)) xs)) p ≡ true
    by true e true f h rest = absurd (n (sym (eqb-true x p f) ∙ eqb-true x place e))
    by true e false f h rest = rest h
    by false e true f h rest = ap (λ b. b || is_among (filter (λ x. not (x == place)) xs) p) f
    by false e false f h rest = ap (λ b. b || is_among (filter (λ x. not (x == place)) xs) p) f ∙ rest h

-- a place among those from one on, which is not that one, is among those after it
pub among_step : (xs : List ℕ) (i p : ℕ) → i < length xs → get_or xs i 0 ≢ p → is_among (drop i xs) p ≡ true → is_among (drop (suc i) xs) p ≡ true
among_step [] i p h n k = absurd (omega arith)
among_step (x ∷ xs) zero p h n k = sym (ap (λ b. b || is_among xs p) (ne_eqb x p n)) ∙ k
among_step (x ∷ xs) (suc i) p h n k = among_step xs i p (omega arith) n k

pub among_kept : (place : ℕ) (xs ys : List ℕ) → ys ≡ filter (λ x. not (nat_eq x place)) xs → (p : ℕ) → p ≢ place → is_among xs p ≡ true → is_among ys p ≡ true
among_kept place xs ys e p n h = ap (λ (zs : List ℕ). is_among zs p) e ∙ among_others place xs p n h
