-- Look-ups in lists and in options.
use Rattle.std.proofs.Common.{◌≡◌, Bool, true, false, ◌||◌, cond, List, [], ◌∷◌, Option, Some, None, refl, ap, sym, subst, ◌∙◌}
use Rattle.std.specs.List.{find, list_all, list_any}
use Rattle.std.specs.Option.{option_map, option_and_then, is_some}
use Rattle.hd_path.proofs.Logic.{some_is_not}
use Rattle.hd_path.proofs.NamePrefixes.{and_true}

-- what is found passes the test
pub found_passes : {X : Type 0} (test : X → Bool) (xs : List X) (x : X) → find test xs ≡ Some x → test x ≡ true
found_passes test [] x e = some_is_not x (sym e)
found_passes {X} test (y ∷ ys) x e =
    elim (test y) as (λ b. test y ≡ b → cond b (Some y) (find test ys) ≡ Some x → test x ≡ true) [
      | true ↦ λ passes is. let same : y ≡ x = cc in ap test (sym same) ∙ passes
      | false ↦ λ _ is. found_passes test ys x is
    ] refl e

-- what is found is one of the list
pub found_in : {X : Type 0} (fact test : X → Bool) (xs : List X) (x : X) → list_all fact xs ≡ true → find test xs ≡ Some x → fact x ≡ true
found_in fact test [] x all e = some_is_not x (sym e)
found_in fact test (y ∷ ys) x all e =
    let both = and_true (fact y) (list_all fact ys) all in
    elim (test y) as (λ b. cond b (Some y) (find test ys) ≡ Some x → fact x ≡ true) [
      | true ↦ λ is. let same : y ≡ x = cc in ap fact (sym same) ∙ both.0
      | false ↦ λ is. found_in fact test ys x both.1 is
    ] e

-- a fact of each of the list
abbrev pub Each : {X : Type 0} → (X → Type 0) → List X → Type 0
Each Fact [] = Unit {0}
Each Fact (x ∷ xs) = Fact x × Each Fact xs

pub found_among : {X : Type 0} (Fact : X → Type 0) (test : X → Bool) (xs : List X) (x : X) → Each Fact xs → find test xs ≡ Some x → Fact x
found_among Fact test [] x all e = some_is_not x (sym e)
found_among {X} Fact test (y ∷ ys) x all e =
    elim (test y) as (λ b. cond b (Some y) (find test ys) ≡ Some x → Fact x) [
      | true ↦ λ is. let same : y ≡ x = cc in subst Fact same all.0
      | false ↦ λ is. found_among Fact test ys x all.1 is
    ] e

pub is_some-find : {X : Type 0} (test : X → Bool) (xs : List X) → is_some (find test xs) ≡ list_any test xs
is_some-find test [] = refl
is_some-find test (x ∷ xs) = elim (test x) as (λ b. is_some (cond b (Some x) (find test xs)) ≡ (b || list_any test xs)) [ true ↦ refl | false ↦ is_some-find test xs ]

-- what a mapped option holds
pub mapped : {X Y P : Type 0} (f : X → Y) (o : Option X) (y : Y) → option_map f o ≡ Some y → ((x : X) → o ≡ Some x → f x ≡ y → P) → P
mapped f None y e k = some_is_not y (sym e)
mapped f (Some x) y e k = k x refl cc

pub chained : {X Y P : Type 0} (f : X → Option Y) (o : Option X) (y : Y) → option_and_then f o ≡ Some y → ((x : X) → o ≡ Some x → f x ≡ Some y → P) → P
chained f None y e k = some_is_not y (sym e)
chained f (Some x) y e k = k x refl e
