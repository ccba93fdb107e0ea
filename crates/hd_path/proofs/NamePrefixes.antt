-- Lists of names that begin with one another.
use Rattle.std.proofs.Common.{◌≡◌, ℕ, ◌-◌, ◌≤◌, take, drop, length-drop, Bool, true, false, List, [], ◌∷◌, ◌++◌, length, ◌&&◌, ◌||◌, refl, ap, sym, subst, ◌∙◌, arith}
use Rattle.std.proofs.lemmas.List.{take_all}
use Rattle.std.specs.Cmp.Lexicographic.{bytes_decides}
use Rattle.std.specs.List.{starts_with}
use Rattle.hd_path.specs.Names.{Name, is_same}
use Rattle.hd_path.specs.Paths.{is_prefix}

pub starts_with_is_prefix : (front whole : List Name) → starts_with is_same whole front ≡ is_prefix front whole
starts_with_is_prefix [] whole = refl
starts_with_is_prefix (x ∷ front) [] = refl
starts_with_is_prefix (x ∷ front) (y ∷ whole) = ap (λ b. is_same x y && b) (starts_with_is_prefix front whole)

pub and_true : (a b : Bool) → (a && b) ≡ true → (a ≡ true) × (b ≡ true)
and_true true b e = (refl, e)
and_true false b e = (e, cc)

pub or_false : (a b : Bool) → (a || b) ≡ false → (a ≡ false) × (b ≡ false)
or_false true b e = (e, cc)
or_false false b e = (refl, e)

pub same_text : (x y : List ℕ) → is_same x y ≡ true → x ≡ y
same_text x y e = (bytes_decides x y).0 e

pub same_itself : (x : List ℕ) → is_same x x ≡ true
same_itself x = (bytes_decides x x).1 refl

-- a list that begins with another one has it as its front, and the other way round
pub take-is_prefix : (front whole : List Name) → is_prefix front whole ≡ true → take (length front) whole ≡ front
take-is_prefix [] whole e = refl
take-is_prefix (x ∷ front) [] e = cc
take-is_prefix (x ∷ front) (y ∷ whole) e =
    let both = and_true (is_same x y) (is_prefix front whole) e in
    ap (λ (z : Name). z ∷ take (length front) whole) (sym (same_text x y both.0)) ∙ ap (λ (rest : List Name). x ∷ rest) (take-is_prefix front whole both.1)

pub is_prefix-take : (front whole : List Name) → take (length front) whole ≡ front → is_prefix front whole ≡ true
is_prefix-take [] whole e = refl
is_prefix-take (x ∷ front) [] e = cc
is_prefix-take (x ∷ front) (y ∷ whole) e =
    let same : y ≡ x = cc in
    let rest : take (length front) whole ≡ front = cc in
    ap (λ b. b && is_prefix front whole) (ap (is_same x) same ∙ same_itself x) ∙ is_prefix-take front whole rest

pub is_prefix-le : (front whole : List Name) → is_prefix front whole ≡ true → length front ≤ length whole
is_prefix-le [] whole e = omega arith
is_prefix-le (x ∷ front) [] e = cc
is_prefix-le (x ∷ front) (y ∷ whole) e =
    omega (arith, is_prefix-le front whole (and_true (is_same x y) (is_prefix front whole) e).1)

pub prefix_of_prefix : (a b c : List Name) → is_prefix a b ≡ true → is_prefix b c ≡ true → is_prefix a c ≡ true
prefix_of_prefix [] b c p q = refl
prefix_of_prefix (x ∷ a) [] c p q = cc
prefix_of_prefix (x ∷ a) (y ∷ b) [] p q = q
prefix_of_prefix (x ∷ a) (y ∷ b) (z ∷ c) p q =
    let left = and_true (is_same x y) (is_prefix a b) p in
    let right = and_true (is_same y z) (is_prefix b c) q in
    let rest : is_prefix a c ≡ true = prefix_of_prefix a b c left.1 right.1 in
    let same : is_same x z ≡ true = subst (λ (w : List ℕ). is_same x w ≡ true) (same_text y z right.0) left.0 in
    ap (λ b. b && is_prefix a c) same ∙ rest

-- a prefix that is no shorter is the whole
pub whole_prefix : (a b : List Name) → is_prefix a b ≡ true → length b ≤ length a → is_prefix b a ≡ true
whole_prefix [] [] p l = refl
whole_prefix [] (y ∷ b) p l = absurd (omega arith)
whole_prefix (x ∷ a) [] p l = refl
whole_prefix (x ∷ a) (y ∷ b) p l =
    let both = and_true (is_same x y) (is_prefix a b) p in
    let back : is_same y x ≡ true = subst (λ (w : List ℕ). is_same w x ≡ true) (same_text x y both.0) (same_itself x) in
    let rest : is_prefix b a ≡ true = whole_prefix a b both.1 (omega arith) in
    ap (λ t. t && is_prefix b a) back ∙ rest

-- a slice from a place to the end
pub slice_to_end : {X : Type 0} (xs : List X) (i : ℕ) → take (length xs - i) (drop i xs) ≡ drop i xs
slice_to_end xs i = take_all (length xs - i) (drop i xs) (omega (arith, length-drop i xs))

-- what a list has beyond itself is nothing
pub nothing_left : {X : Type 0} (front rest : List X) → front ≡ front ++ rest → rest ≡ []
nothing_left [] rest e = sym e
nothing_left (x ∷ front) rest e = nothing_left front rest cc

-- a list that is not empty is a front and a last item
pub split_last : {X : Type 0} (x : X) (xs : List X) → (front : List X) × (last : X) × (x ∷ xs ≡ front ++ last ∷ [])
split_last x [] = ([], x, refl)
split_last {X} x (y ∷ xs) =
    let rest = split_last y xs in
    (x ∷ rest.0, rest.1, ap (λ (z : List X). x ∷ z) rest.2)
