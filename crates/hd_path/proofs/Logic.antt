-- What tests give, and what follows from a claim that cannot be.
use Rattle.std.proofs.Common.{◌≡◌, Bool, true, false, ◌||◌, Option, Some, None, refl, sym}
use Rattle.std.proofs.lemmas.Bool.{true≢false, false≢true}
use Rattle.std.proofs.lemmas.Option.{none-some}
use Rattle.std.specs.Option.{is_some}

pub true_is_not : {P : Type 0} → true ≡ false → P
true_is_not e = absurd (true≢false e)

pub false_is_not : {P : Type 0} → false ≡ true → P
false_is_not e = absurd (false≢true e)

pub some_is_not : {X P : Type 0} (x : X) → Some x ≡ None → P
some_is_not x e = absurd (none-some x (sym e))

-- what follows from each of two tests follows where one of them passes
pub either : {P : Type 0} (a b : Bool) → (a ≡ true → P) → (b ≡ true → P) → (a || b) ≡ true → P
either true b left right e = left refl
either false b left right e = right e

pub none_there : {X : Type 0} (o : Option X) → is_some o ≡ false → o ≡ None
none_there None e = refl
none_there (Some x) e = true_is_not e
