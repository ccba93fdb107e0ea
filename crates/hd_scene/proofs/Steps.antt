-- Single changes of a scene, and the notice that tells each.
use Rattle.std.proofs.Common.{◌≡◌, ℕ, Bool, true, false, not, cond, if◌then◌else◌, ◌&&◌, ◌||◌, List, [], ◌∷◌, Option, Some, None, option_and_then, refl, sym, ◌∙◌, ap}
use Rattle.std.specs.Option.{option_map}
use Rattle.std.specs.Cmp.{eq_by_cmp_equiv}
use Rattle.std.specs.FinMap.{get, insert, retain_keys, get-insert, get-retain_keys}
use Rattle.hd_path.specs.inner.Comparing.{names_ties, names_same}
use Rattle.hd_value.specs.declared.value.Value.{Value}
use Rattle.hd_path.specs.Paths.{Path, is_prefix}
use Rattle.hd_value.specs.LocatorSets.{touches}
use Rattle.hd_scene.specs.Scenes.{Scene, kind_at, value_at}
use Rattle.hd_scene.specs.Tells.{is_same_path, Tells}
use Rattle.hd_scene.specs.declared.prims.Entry.{Entry}
use Rattle.hd_scene.specs.declared.notice.Notice.TheVariants.{Added, Removed, Dirtied}
use Rattle.hd_scene.proofs.Children.{path_cmp_total, path_cmp_exact}
use Rattle.hd_tokens.specs.Locators.{Locator}

abbrev kind_of : Option Entry → Option (List ℕ)
kind_of = option_map (λ (e : Entry). e.kind)

abbrev value_in : List (List ℕ) → Option Entry → Option Value
value_in at = option_and_then (λ (e : Entry). get e.values at)

-- what is at a path after a prim was put
found_after : (scene : Scene) (at : Path) (e : Entry) (p : Path) → get (insert scene at e) p ≡ cond (is_same_path at p) (Some e) (get scene p)
found_after scene at e p =
    get-insert path_cmp_total scene at e p
    ∙ ap (λ b. cond b (Some e) (get scene p)) ((eq_by_cmp_equiv path_cmp_total).symm p at ∙ sym (names_ties at p))

or_nothing : (b : Bool) → (b || false) ≡ false → b ≡ false
or_nothing true h = h
or_nothing false h = refl

-- a prim that is put at a path is told as added
pub Tells-added : (scene : Scene) (at : Path) (e : Entry) → Tells scene (insert scene at e) (Added at e.kind ∷ [])
Tells-added scene at e = record {
  kinds = λ p. ap kind_of (found_after scene at e p) ∙ kind_there (is_same_path at p) (get scene p);
  values = λ p l w d. ap (value_in l) (found_after scene at e p) ∙ ap (λ b. value_in l (cond b (Some e) (get scene p))) (or_nothing (is_same_path at p) w);
}
  where
    kind_there : (b : Bool) (o : Option Entry) → kind_of (cond b (Some e) o) ≡ (if b then Some e.kind else kind_of o)
    kind_there true o = refl
    kind_there false o = refl

-- prims that are taken out at and below a path are told as removed
pub Tells-removed : (scene : Scene) (at : Path) → Tells scene (retain_keys scene (λ p. not (is_prefix at p))) (Removed at ∷ [])
Tells-removed scene at = record {
  kinds = λ p. ap kind_of (left p) ∙ kind_left (is_prefix at p) (get scene p);
  values = λ p l w d. ap (value_in l) (left p) ∙ ap (λ b. value_in l (cond (not b) (get scene p) None)) (or_nothing (is_prefix at p) w);
}
  where
    left : (p : Path) → get (retain_keys scene (λ q. not (is_prefix at q))) p ≡ cond (not (is_prefix at p)) (get scene p) None
    left p = get-retain_keys scene (λ q. not (is_prefix at q)) p (λ q tie. ap (λ (z : List (List ℕ)). not (is_prefix at z)) (sym (path_cmp_exact p q tie)))

    kind_left : (b : Bool) (o : Option Entry) → kind_of (cond (not b) o None) ≡ (if b then None else kind_of o)
    kind_left true o = refl
    kind_left false o = refl

-- a prim that keeps its kind is told as dirtied, where the set intersects each locator at which its values differ
pub Tells-dirtied : (scene : Scene) (at : Path) (old new : Entry) (set : List Locator) → get scene at ≡ Some old → new.kind ≡ old.kind
    → ((l : Locator) → touches set l ≡ false → get new.values l ≡ get old.values l) → Tells scene (insert scene at new) (Dirtied at set ∷ [])
Tells-dirtied scene at old new set there same_kind kept = record {
  kinds = λ p. ap kind_of (found_after scene at new p) ∙ at_or_not p (is_same_path at p) refl;
  values = λ p l w d. ap (value_in l) (found_after scene at new p) ∙ value_kept p l (is_same_path at p) refl (or_nothing (is_same_path at p && touches set l) d);
}
  where
    old_there : (p : Path) → is_same_path at p ≡ true → get scene p ≡ Some old
    old_there p same = ap (get scene) (sym (names_same at p same)) ∙ there

    at_or_not : (p : Path) (b : Bool) → is_same_path at p ≡ b → kind_of (cond b (Some new) (get scene p)) ≡ kind_at scene p
    at_or_not p true same = ap (λ (k : List ℕ). Some k) same_kind ∙ sym (ap kind_of (old_there p same))
    at_or_not p false same = refl

    value_kept : (p : Path) (l : Locator) (b : Bool) → is_same_path at p ≡ b → (b && touches set l) ≡ false → value_in l (cond b (Some new) (get scene p)) ≡ value_at scene p l
    value_kept p l true same quiet = kept l quiet ∙ sym (ap (value_in l) (old_there p same))
    value_kept p l false same quiet = refl
