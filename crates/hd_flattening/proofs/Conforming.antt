-- Containers that conform to a schema.
use Rattle.std.proofs.Common.{◌≡◌, ℕ, Bool, true, false, not, cond, List, Some, None, Result, Ok, Err, OnOk, OnErr, refl, ap, sym, subst, ◌∙◌}
use Rattle.std.specs.Cmp.Lexicographic.{slice_cmp}
use Rattle.std.specs.Ordering.{nat_cmp}
use Rattle.std.specs.FinMap.{get, empty, get-empty}
use Rattle.hd_value.specs.declared.value.Value.{Value}
use Rattle.hd_value.specs.Maps.{Map, set_at}
use Rattle.hd_value.specs.Schema.{Conforms}
use Rattle.hd_value.proofs.Getting.{eqk, eqk_same}
use Rattle.hd_value.proofs.Setting.{get-set_at}
use Rattle.hd_path.specs.Paths.{is_prefix}
use Rattle.hd_path.proofs.Logic.{some_is_not}
use Rattle.hd_tokens.specs.Locators.{Locator}

-- the container without values conforms, and so does one with one value more that may be there
pub empty_conforms : (may : List (List ℕ) → Value → Bool) (m : Map) → m ≡ empty → Conforms may m
empty_conforms may m is at v there = some_is_not v (sym there ∙ ap (λ (n : Map). get n at) is ∙ get-empty (slice_cmp (slice_cmp nat_cmp)) at)

pub set_conforms : (may : List (List ℕ) → Value → Bool) (m : Map) (at : Locator) (v : Value) → Conforms may m → may at v ≡ true → Conforms may (set_at m at v)
set_conforms may m at v fits stands q w there =
    elim (eqk q at) as (λ b. eqk q at ≡ b → cond b (Some v) (cond (not (is_prefix at q)) (get m q) None) ≡ Some w → may q w ≡ true) [
      | true ↦ λ here is. let one : v ≡ w = cc in ap (λ (k : List (List ℕ)). may k w) (eqk_same q at here) ∙ ap (may at) (sym one) ∙ stands
      | false ↦ λ _. elim (is_prefix at q) as (λ b. cond (not b) (get m q) None ≡ Some w → may q w ≡ true) [
        | true ↦ λ no. some_is_not w (sym no)
        | false ↦ λ is. fits q w is
      ]
    ] refl (sym (get-set_at m at v q) ∙ there)

pub put_conforms : {E : Type 0} (may : List (List ℕ) → Value → Bool) (r : Result (Unit {0}) E) (old new : Map) (at : Locator) (v : Value) → Conforms may old → may at v ≡ true
    → OnOk r (new ≡ set_at old at v) → OnErr r (new ≡ old) → Conforms may new
put_conforms may (Ok u) old new at v fits stands put kept = subst (Conforms may) (sym put) (set_conforms may old at v fits stands)
put_conforms may (Err e) old new at v fits stands put kept = subst (Conforms may) (sym kept) fits
