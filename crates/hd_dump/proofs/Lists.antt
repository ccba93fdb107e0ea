-- Lists from a place on.
use Rattle.std.proofs.Common.{◌≡◌, ℕ, zero, suc, ◌+◌, List, [], ◌∷◌, ◌++◌, drop, ap, sym, ◌∙◌, arith, append_assoc, Some, slice_get}
use Rattle.std.specs.List.{enumerate_from, flat_map}

-- what is left from a place on: the item there, and what is left after it
pub rest_at : {A : Type 0} (xs : List A) (i : ℕ) (x : A) → slice_get xs i ≡ Some x → drop i xs ≡ x ∷ drop (i + 1) xs
rest_at [] i x found = absurd (cc)
rest_at {A} (y ∷ ys) zero x found =
    let same : y ≡ x = cc in
    ap (λ (z : A). z ∷ ys) same
rest_at (y ∷ ys) (suc i) x found =
    let next : suc (i + 1) ≡ suc i + 1 = omega arith in
    rest_at ys i x found ∙ ap (λ n. x ∷ drop n (y ∷ ys)) next

-- one piece more was appended, and less is left
pub piece_appended : {A : Type 0} (piece : A → List ℕ) (text whole : List ℕ) (xs : List A) (i : ℕ) (x : A) → slice_get xs i ≡ Some x
    → text ++ flat_map piece (drop i xs) ≡ whole → (text ++ piece x) ++ flat_map piece (drop (i + 1) xs) ≡ whole
piece_appended {A} piece text whole xs i x found before =
    append_assoc text (piece x) (flat_map piece (drop (i + 1) xs))
    ∙ ap (λ (rest : List A). text ++ flat_map piece rest) (sym (rest_at xs i x found))
    ∙ before

-- the same where each piece has its number
pub numbered_piece_appended : {A : Type 0} (piece : ℕ × A → List ℕ) (text whole : List ℕ) (xs : List A) (i : ℕ) (x : A) → slice_get xs i ≡ Some x
    → text ++ flat_map piece (enumerate_from i (drop i xs)) ≡ whole
    → (text ++ piece (i, x)) ++ flat_map piece (enumerate_from (i + 1) (drop (i + 1) xs)) ≡ whole
numbered_piece_appended {A} piece text whole xs i x found before =
    append_assoc text (piece (i, x)) (flat_map piece (enumerate_from (i + 1) (drop (i + 1) xs)))
    ∙ ap (λ (rest : List A). text ++ flat_map piece (enumerate_from i rest)) (sym (rest_at xs i x found))
    ∙ before
