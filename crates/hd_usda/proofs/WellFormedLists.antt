-- The lists that a reader may answer are within the limit, and each element passes its test.
use Rattle.std.proofs.Common.{◌≡◌, ℕ, ◌<◌, ◌≤◌, Bool, true, false, ◌&&◌, nat_le, List, [], ◌∷◌, ◌++◌, length, Ok, refl, ◌∙◌, arith, length-append}
use Rattle.std.proofs.lemmas.Bool.{and_from, and_parts, leb-false, le-leb}
use Rattle.std.proofs.lemmas.List.Folds.{list_all-append}
use Rattle.std.specs.List.{list_all}
use Rattle.hd_lexer.specs.declared.lexer.Kind.TheVariants.{OpenSquare, CloseSquare, Comma}
use Rattle.hd_layer.specs.declared.limits.Which.TheVariants.{Elements}
use Rattle.hd_layer.specs.Limits.{limit_of}
use Rattle.hd_lexer.specs.Lexing.{Tokens}
use Rattle.hd_usda.specs.reading.Cursor.{is, rest, text, fault_at}
use Rattle.hd_usda.specs.used.Numbers.{need}
use Rattle.hd_usda.specs.used.Elements.{Reads, one_more, next_element, list_of}
use Rattle.hd_layer.specs.WellFormed.{is_list}
use Rattle.hd_usda.proofs.Answering.{Leaves, Whatever, on_then, on_either, on_test, on_ok, on_fault, on_any, on_all}

-- a first element and others, which pass their tests
abbrev pub follow : {A : Type 0} → (A → Bool) → (A → Bool) → List A → Bool
follow first other [] = false
follow first other (x ∷ xs) = first x && list_all other xs

-- elements so far: not empty, within the limit, and each passes its test
pub record ElementsSoFar {A : Type 0} (first other : A → Bool) (found : List A) : Type 0 where
  pub passes : follow first other found ≡ true
  pub within : length found ≤ limit_of Elements

follow_more : {A : Type 0} (first other : A → Bool) (found : List A) (x : A) → follow first other found ≡ true → other x ≡ true → follow first other (found ++ x ∷ []) ≡ true
follow_more first other [] x h e = absurd (cc)
follow_more first other (f ∷ found) x h e =
    let both = and_parts (first f) (list_all other found) h in
    and_from (first f) (list_all other (found ++ x ∷ [])) both.0 (list_all-append other found (x ∷ []) ∙ and_from (list_all other found) (other x && true) both.1 (rw e refl))

below_limit : (begins : Bool) (limit n : ℕ) → (begins && nat_le limit n) ≡ false → begins ≡ true → n < limit
below_limit true limit n h e = leb-false limit n h
below_limit false limit n h e = absurd (cc)

-- what a form of elements says of what it answers
pub record Checks {A : Type 0} (how : Reads A) (first other : A → Bool) : Type 0 where
  pub starts : (ts : Tokens) (x : A) (u : Tokens) → how.form true ts ≡ Ok (x, u) → first x ≡ true
  pub goes_on : (ts : Tokens) (x : A) (u : Tokens) → how.form false ts ≡ Ok (x, u) → other x ≡ true
  pub begins : (ts : Tokens) (x : A) (u : Tokens) → how.form false ts ≡ Ok (x, u) → how.begins ts ≡ true

-- the same with the tokens after them
abbrev SoFar : {A : Type 0} → (A → Bool) → (A → Bool) → List A × Tokens → Type 0
SoFar first other q = ElementsSoFar first other q.0

one_more_keeps : {A : Type 0} (how : Reads A) (first other : A → Bool) → Checks how first other → (found : List A) (ts : Tokens) → ElementsSoFar first other found → Leaves (SoFar first other) (one_more how found ts)
unfolding one_more
one_more_keeps {A} how first other checks found ts h =
    on_test (SoFar first other) (how.begins ts && nat_le (limit_of Elements) (length found)) _ _ (λ beyond. on_fault (SoFar first other) (fault_at ts (how.beyond (text ts)))) (λ there.
    on_then (λ x. (how.begins ts ≡ true) × (other x.0 ≡ true)) (SoFar first other) (how.form false ts) _ (λ x e. (checks.begins ts x.0 x.1 e, checks.goes_on ts x.0 x.1 e))
    (λ x good. on_ok (SoFar first other) (found ++ x.0 ∷ [], x.1) (longer x.0 (below_limit (how.begins ts) (limit_of Elements) (length found) there good.0) good.1)))
  where
    longer : (x : A) → length found < limit_of Elements → other x ≡ true → ElementsSoFar first other (found ++ x ∷ [])
    longer x room good = let size = length-append found (x ∷ []) in record { passes = follow_more first other found x h.passes good; within = omega (arith, room, size) }

next_keeps : {A : Type 0} (how : Reads A) (first other : A → Bool) → Checks how first other → (found : List A) (ts : Tokens) → ElementsSoFar first other found → Leaves (SoFar first other) (next_element how found ts)
unfolding next_element
next_keeps how first other checks found ts h =
    on_then Whatever (SoFar first other) (need how.attribute Comma ts) _ (on_any (need how.attribute Comma ts)) (λ u _.
    on_either (SoFar first other) (is CloseSquare u) _ _ (on_ok (SoFar first other) (found, u) h) (one_more_keeps how first other checks found u h))

-- no elements, or some that pass their tests within the limit
abbrev pub are_listed : {A : Type 0} → (A → Bool) → (A → Bool) → List A → Bool
are_listed first other [] = true
are_listed first other (x ∷ xs) = nat_le (length (x ∷ xs)) (limit_of Elements) && (first x && list_all other xs)

listed : {A : Type 0} (first other : A → Bool) (found : List A) → ElementsSoFar first other found → are_listed first other found ≡ true
listed first other [] h = refl
listed first other (x ∷ xs) h = and_from (nat_le (length (x ∷ xs)) (limit_of Elements)) (first x && list_all other xs) (le-leb (length (x ∷ xs)) (limit_of Elements) h.within) h.passes

pub list_is : {A : Type 0} (how : Reads A) (first other : A → Bool) → Checks how first other → (ts : Tokens) → Leaves (λ q. are_listed first other q.0 ≡ true) (list_of how ts)
unfolding list_of
list_is how first other checks ts =
    on_then Whatever (λ q. are_listed first other q.0 ≡ true) (need how.attribute OpenSquare ts) _ (on_any (need how.attribute OpenSquare ts)) (λ u _.
    on_either (λ q. are_listed first other q.0 ≡ true) (is CloseSquare u) _ _ (on_ok (λ q. are_listed first other q.0 ≡ true) ([], rest u) refl)
    (on_then (λ x. first x.0 ≡ true) (λ q. are_listed first other q.0 ≡ true) (how.form true u) _ (λ x e. checks.starts u x.0 x.1 e) (λ x good xs e.
    listed first other xs.0 (on_all (SoFar first other) CloseSquare (next_element how) (λ s ts h. h) (next_keeps how first other checks) (x.0 ∷ []) x.1 (record { passes = and_from (first x.0) true good refl; within = omega arith }) xs e))))

-- a list of one kind of element
pub are_list : {A : Type 0} (test : A → Bool) (xs : List A) → are_listed test test xs ≡ true → is_list test xs ≡ true
are_list test [] h = refl
are_list test (x ∷ xs) h = h
