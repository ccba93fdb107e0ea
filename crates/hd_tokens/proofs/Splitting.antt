-- A list that is cut at the elements that pass a test, part by part.
use Rattle.std.proofs.Common.{◌≡◌, ℕ, zero, suc, ◌+◌, ◌-◌, ◌<◌, ◌⊎◌, inl, inr, Bool, true, false, not, List, [], ◌∷◌, length, take, drop, refl, sym, ap, ◌∙◌, arith, add-one, take_all, length-drop}
use Rattle.std.proofs.lemmas.List.Sums.{prefix_len-le-length}
use Rattle.std.specs.List.{slice_split, prefix_len, list_all, list_any}

cases_zero : (n : ℕ) → (n ≡ 0) ⊎ (0 < n)
cases_zero zero = inl refl
cases_zero (suc n) = inr (omega arith)

pub split_ends : {X : Type 0} (p : X → Bool) (xs : List X) → prefix_len (λ x. not (p x)) xs ≡ length xs → slice_split p xs ≡ xs ∷ []
split_ends p [] h = refl
split_ends {X} p (x ∷ xs) h = by_test (split_ends p xs) (p x) refl
  where
    by_test : (prefix_len (λ x. not (p x)) xs ≡ length xs → slice_split p xs ≡ xs ∷ []) → (t : Bool) → p x ≡ t → slice_split p (x ∷ xs) ≡ (x ∷ xs) ∷ []
    by_test ends true e = let none : 0 ≡ length (x ∷ xs) = rw e at h in absurd (omega arith)
    by_test ends false e =
        let more : 1 + prefix_len (λ x. not (p x)) xs ≡ length (x ∷ xs) = rw e at h in
        rw (e, ends (omega arith)) refl

split_goes_on : {X : Type 0} (p : X → Bool) (n : ℕ) (xs : List X) → n ≡ prefix_len (λ x. not (p x)) xs → n < length xs → slice_split p xs ≡ take n xs ∷ slice_split p (drop (suc n) xs)
split_goes_on p n [] is h = absurd (omega arith)
split_goes_on {X} p n (x ∷ xs) is h = by_test (λ m. split_goes_on p m xs) (p x) n refl is h
  where
    by_test : ((m : ℕ) → m ≡ prefix_len (λ x. not (p x)) xs → m < length xs → slice_split p xs ≡ take m xs ∷ slice_split p (drop (suc m) xs))
        → (t : Bool) (n : ℕ) → p x ≡ t → n ≡ prefix_len (λ x. not (p x)) (x ∷ xs) → n < length (x ∷ xs) → slice_split p (x ∷ xs) ≡ take n (x ∷ xs) ∷ slice_split p (drop (suc n) (x ∷ xs))
    by_test goes_on true zero e is h = rw e refl
    by_test goes_on true (suc m) e is h = let none : suc m ≡ 0 = rw e at is in absurd (omega arith)
    by_test goes_on false zero e is h = let more : zero ≡ 1 + prefix_len (λ x. not (p x)) xs = rw e at is in absurd (omega arith)
    by_test goes_on false (suc m) e is h =
        let more : suc m ≡ 1 + prefix_len (λ x. not (p x)) xs = rw e at is in
        rw (e, goes_on m (omega arith) (omega arith)) refl

-- the first part has n elements, and nothing is after it, or a cut and the others
abbrev pub IsFirst : {X : Type 0} → (X → Bool) → ℕ → List X → Type 0
IsFirst p n xs = n ≡ prefix_len (λ x. not (p x)) xs

pub split_last : {X : Type 0} (p : X → Bool) (n : ℕ) (xs : List X) → IsFirst p n xs → length (drop n xs) ≡ 0 → slice_split p xs ≡ take n xs ∷ []
split_last p n xs is none =
    let bound = prefix_len-le-length (λ x. not (p x)) xs in
    let size = length-drop n xs in
    let all : n ≡ length xs = omega (arith, is, bound, none, size) in
    rw (take_all n xs (omega (arith, all))) (split_ends p xs (sym is ∙ all))

pub split_more : {X : Type 0} (p : X → Bool) (n : ℕ) (xs : List X) → IsFirst p n xs → 0 < length (drop n xs) → slice_split p xs ≡ take n xs ∷ slice_split p (drop (n + 1) xs)
split_more p n xs is some =
    let size = length-drop n xs in
    rw (add-one n) (split_goes_on p n xs is (omega (arith, some, size)))

one_further : {X : Type 0} (n : ℕ) (xs : List X) → drop 1 (drop n xs) ≡ drop (suc n) xs
one_further zero xs = refl
one_further (suc n) [] = refl
one_further (suc n) (x ∷ xs) = one_further n xs

-- what a pattern binds after the first element
pub after_first : {X : Type 0} (n : ℕ) (xs ys : List X) → ys ≡ drop n xs → take (length ys - 1) (drop 1 ys) ≡ drop (n + 1) xs
after_first n xs ys is =
    let all : take (length ys - 1) (drop 1 ys) ≡ drop 1 ys = take_all (length ys - 1) (drop 1 ys) (omega (arith, length-drop 1 ys)) in
    all ∙ ap (drop 1) is ∙ one_further n xs ∙ ap (λ m. drop m xs) (sym (add-one n))

-- each part passes a test, where the first does not
pub all_fails : {X : Type 0} (p : X → Bool) (test : List X → Bool) (n : ℕ) (xs : List X) → IsFirst p n xs → test (take n xs) ≡ false → list_all test (slice_split p xs) ≡ false
all_fails p test n xs is bad = elim (cases_zero (length (drop n xs))) [
  | inl none ↦ rw (split_last p n xs is none, bad) refl
  | inr some ↦ rw (split_more p n xs is some, bad) refl
]

pub all_ends : {X : Type 0} (p : X → Bool) (test : List X → Bool) (n : ℕ) (xs : List X) → IsFirst p n xs → test (take n xs) ≡ true → length (drop n xs) ≡ 0 → list_all test (slice_split p xs) ≡ true
all_ends p test n xs is good none = rw (split_last p n xs is none, good) refl

pub all_goes_on : {X : Type 0} (p : X → Bool) (test : List X → Bool) (n : ℕ) (xs : List X) → IsFirst p n xs → test (take n xs) ≡ true → 0 < length (drop n xs) → list_all test (slice_split p xs) ≡ list_all test (slice_split p (drop (n + 1) xs))
all_goes_on p test n xs is good some = rw (split_more p n xs is some, good) refl

-- some part passes a test, where the first does
pub any_passes : {X : Type 0} (p : X → Bool) (test : List X → Bool) (n : ℕ) (xs : List X) → IsFirst p n xs → test (take n xs) ≡ true → list_any test (slice_split p xs) ≡ true
any_passes p test n xs is good = elim (cases_zero (length (drop n xs))) [
  | inl none ↦ rw (split_last p n xs is none, good) refl
  | inr some ↦ rw (split_more p n xs is some, good) refl
]

pub any_ends : {X : Type 0} (p : X → Bool) (test : List X → Bool) (n : ℕ) (xs : List X) → IsFirst p n xs → test (take n xs) ≡ false → length (drop n xs) ≡ 0 → list_any test (slice_split p xs) ≡ false
any_ends p test n xs is bad none = rw (split_last p n xs is none, bad) refl

pub any_goes_on : {X : Type 0} (p : X → Bool) (test : List X → Bool) (n : ℕ) (xs : List X) → IsFirst p n xs → test (take n xs) ≡ false → 0 < length (drop n xs) → list_any test (slice_split p xs) ≡ list_any test (slice_split p (drop (n + 1) xs))
any_goes_on p test n xs is bad some = rw (split_more p n xs is some, bad) refl
