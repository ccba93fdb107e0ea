-- Locators that intersect.
use Rattle.std.proofs.Common.{◌≡◌, ℕ, Bool, true, false, List, [], ◌∷◌, ◌&&◌, ◌||◌, refl, ap, sym, subst, ◌∙◌}
use Rattle.hd_path.specs.Names.{Name, is_same}
use Rattle.hd_path.specs.Paths.{is_prefix}
use Rattle.hd_path.proofs.NamePrefixes.{and_true, same_text, same_itself, prefix_of_prefix}
use Rattle.hd_tokens.specs.Locators.{Locator}
use Rattle.hd_value.specs.Locators.{intersects}

-- two prefixes of one locator intersect
pub prefixes_intersect : (a b c : Locator) → is_prefix a c ≡ true → is_prefix b c ≡ true → intersects a b ≡ true
prefixes_intersect [] b c p q = refl
prefixes_intersect (x ∷ a) [] c p q = refl
prefixes_intersect (x ∷ a) (y ∷ b) [] p q = cc
prefixes_intersect (x ∷ a) (y ∷ b) (z ∷ c) p q =
    let left = and_true (is_same x z) (is_prefix a c) p in
    let right = and_true (is_same y z) (is_prefix b c) q in
    let same : x ≡ y = same_text x z left.0 ∙ sym (same_text y z right.0) in
    let there : is_same x y ≡ true = subst (λ (w : List ℕ). is_same x w ≡ true) same (same_itself x) in
    let back : is_same y x ≡ true = subst (λ (w : List ℕ). is_same y w ≡ true) (sym same) (same_itself y) in
    ap (λ t. (t && is_prefix a b) || (is_same y x && is_prefix b a)) there ∙ ap (λ t. is_prefix a b || (t && is_prefix b a)) back ∙ prefixes_intersect a b c left.1 right.1

-- a locator below another one intersects no more than it
pub above_intersects : (a b x : Locator) → is_prefix a b ≡ true → intersects b x ≡ true → intersects a x ≡ true
above_intersects a b x p q =
    elim (is_prefix b x) as (λ t. is_prefix b x ≡ t → (t || is_prefix x b) ≡ true → intersects a x ≡ true) [
      | true ↦ λ down _. ap (λ t. t || is_prefix x a) (prefix_of_prefix a b x p down)
      | false ↦ λ _ up. prefixes_intersect a x b p up
    ] refl q

pub intersects_turned : (a b : Locator) → intersects a b ≡ intersects b a
intersects_turned a b = or_turned (is_prefix a b) (is_prefix b a)
  where
    or_turned : (s t : Bool) → (s || t) ≡ (t || s)
    or_turned true true = refl
    or_turned true false = refl
    or_turned false true = refl
    or_turned false false = refl

-- the order of two texts that are compared is free
pub same_turned : (x y : List ℕ) → is_same x y ≡ is_same y x
same_turned x y = elim (is_same x y) as (λ b. is_same x y ≡ b → b ≡ is_same y x) [
  | true ↦ λ e. sym (subst (λ (z : List ℕ). is_same z x ≡ true) (same_text x y e) (same_itself x))
  | false ↦ λ e. elim (is_same y x) as (λ b. is_same y x ≡ b → false ≡ b) [
    | true ↦ λ f. sym e ∙ subst (λ (z : List ℕ). is_same z y ≡ true) (same_text y x f) (same_itself y)
    | false ↦ λ f. refl
  ] refl
] refl

-- the first tokens of two locators, and the rest
pub intersects_token : (x y : Name) (a b : Locator) → intersects (x ∷ a) (y ∷ b) ≡ (is_same x y && intersects a b)
intersects_token x y a b = rw (sym (same_turned x y)) (join (is_same x y) (is_prefix a b) (is_prefix b a))
  where
    join : (s p q : Bool) → ((s && p) || (s && q)) ≡ (s && (p || q))
    join true p q = refl
    join false p q = refl

-- two locators whose first tokens are the same intersect as the rest does
pub intersects_split : (a b : Locator) (x y : Name) (c d : Locator) → a ≡ x ∷ c → b ≡ y ∷ d → is_same x y ≡ true → intersects a b ≡ intersects c d
intersects_split a b x y c d e f same = ap (λ (z : Locator). intersects z b) e ∙ ap (intersects (x ∷ c)) f ∙ intersects_token x y c d ∙ ap (λ s. s && intersects c d) same
