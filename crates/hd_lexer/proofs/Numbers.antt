-- The bytes of numbers are those that the grammar of numbers allows.
use Rattle.std.proofs.Common.{◌≡◌, ◌⊎◌, ℕ, zero, suc, ◌+◌, ◌<◌, inl, inr, Bool, true, false, ◌&&◌, ◌||◌, not, ◌==◌, if◌then◌else◌, List, [], ◌∷◌, ◌++◌, length, take, drop, refl, ap, subst, ◌∙◌, arith, add-one, append_assoc}
use Rattle.std.proofs.lemmas.Bool.{and_parts, eqb-true, not-true}
use Rattle.std.proofs.lemmas.List.Folds.{length-prefix_len}
use Rattle.std.proofs.Math.Seq.{take-add}
use Rattle.hd_path.specs.Names.{is_digit}
use Rattle.hd_lexer.specs.Lexing.{digits, fraction_len, sign_len, is_sign, is_exponent, exponent_len, mantissa_len, number_len}
use Rattle.hd_lexer.specs.Laws.{AreDigits, AfterSign, IsFraction, IsExponent, IsUnsigned}
use Rattle.hd_lexer.proofs.Runs.{all_taken}

some_length : (n : ℕ) → (n == 0) ≡ false → 0 < n
some_length zero h = absurd (cc)
some_length (suc n) h = omega arith

some_digits : (bs : List ℕ) → (digits bs == 0) ≡ false → (0 < length (take (digits bs) bs)) × AreDigits (take (digits bs) bs)
some_digits bs h = (rw (length-prefix_len is_digit bs) (some_length (digits bs) h), all_taken is_digit bs)

fraction_is : (may_miss : Bool) (bs : List ℕ) → IsFraction (take (fraction_len may_miss bs) bs)
fraction_is may_miss [] = refl
fraction_is may_miss (b ∷ bs) = by ((b == 46) && (may_miss || not (digits bs == 0))) refl
  where
    by : (t : Bool) → ((b == 46) && (may_miss || not (digits bs == 0))) ≡ t → IsFraction (take (if t then digits bs + 1 else 0) (b ∷ bs))
    by true h = rw (add-one (digits bs)) (eqb-true b 46 (and_parts (b == 46) (may_miss || not (digits bs == 0)) h).0, all_taken is_digit bs)
    by false h = refl

-- where the digits after the point may not be missing
long_fraction : (bs : List ℕ) → (fraction_len false bs == 0) ≡ false → 1 < length (take (fraction_len false bs) bs)
long_fraction [] h = absurd (cc)
long_fraction (b ∷ bs) h = by ((b == 46) && not (digits bs == 0)) refl h
  where
    by : (t : Bool) → ((b == 46) && not (digits bs == 0)) ≡ t → ((if t then digits bs + 1 else 0) == 0) ≡ false → 1 < length (take (if t then digits bs + 1 else 0) (b ∷ bs))
    by true e k =
        let some = some_length (digits bs) (not-true (digits bs == 0) (and_parts (b == 46) (not (digits bs == 0)) e).1) in
        rw (add-one (digits bs)) (omega (arith, some, length-prefix_len is_digit bs))
    by false e k = absurd (cc)

signed_digits : (bs : List ℕ) → (digits (drop (sign_len bs) bs) == 0) ≡ false → AfterSign (λ ds. (0 < length ds) × AreDigits ds) (take (sign_len bs + digits (drop (sign_len bs) bs)) bs)
signed_digits [] h = absurd (cc)
signed_digits (b ∷ bs) h = by (is_sign b) refl h
  where
    by : (t : Bool) → is_sign b ≡ t → (digits (drop (if t then 1 else 0) (b ∷ bs)) == 0) ≡ false → AfterSign (λ ds. (0 < length ds) × AreDigits ds) (take ((if t then 1 else 0) + digits (drop (if t then 1 else 0) (b ∷ bs))) (b ∷ bs))
    by true e h = let more : 1 + digits bs ≡ suc (digits bs) = omega arith in rw more (inr (e, some_digits bs h))
    by false e h = plain (digits (b ∷ bs)) refl
      where
        plain : (n : ℕ) → digits (b ∷ bs) ≡ n → AfterSign (λ ds. (0 < length ds) × AreDigits ds) (take (0 + n) (b ∷ bs))
        plain zero k = absurd (let g : (0 == 0) ≡ false = subst (λ n. (n == 0) ≡ false) k h in cc)
        plain (suc n) k = let less : 0 + suc n ≡ suc n = omega arith in rw less (inl (subst (λ m. (0 < length (take m (b ∷ bs))) × AreDigits (take m (b ∷ bs))) k (some_digits (b ∷ bs) h)))

exponent_is : (bs : List ℕ) → IsExponent (take (exponent_len bs) bs)
exponent_is [] = refl
exponent_is (b ∷ bs) = by (is_exponent b && not (digits (drop (sign_len bs) bs) == 0)) refl
  where
    by : (t : Bool) → (is_exponent b && not (digits (drop (sign_len bs) bs) == 0)) ≡ t → IsExponent (take (if t then sign_len bs + digits (drop (sign_len bs) bs) + 1 else 0) (b ∷ bs))
    by true h =
        let both = and_parts (is_exponent b) (not (digits (drop (sign_len bs) bs) == 0)) h in
        rw (add-one (sign_len bs + digits (drop (sign_len bs) bs))) (both.0, signed_digits bs (not-true (digits (drop (sign_len bs) bs) == 0) both.1))
    by false h = refl

mantissa_some : (bs : List ℕ) → (mantissa_len bs == 0) ≡ false → (0 < length (take (digits bs) bs)) ⊎ (1 < length (take (fraction_len (not (digits bs == 0)) (drop (digits bs) bs)) (drop (digits bs) bs)))
mantissa_some bs = by (digits bs == 0) refl
  where
    by : (t : Bool) → (digits bs == 0) ≡ t → (digits bs + fraction_len (not t) (drop (digits bs) bs) == 0) ≡ false → (0 < length (take (digits bs) bs)) ⊎ (1 < length (take (fraction_len (not t) (drop (digits bs) bs)) (drop (digits bs) bs)))
    by false e h = inl (some_digits bs e).0
    by true e h =
        let none : digits bs ≡ 0 = eqb-true (digits bs) 0 e in
        let less : digits bs + fraction_len false (drop (digits bs) bs) ≡ fraction_len false (drop (digits bs) bs) = omega arith in
        inr (long_fraction (drop (digits bs) bs) (subst (λ n. (n == 0) ≡ false) less h))

-- the bytes that are taken for a number without sign are one
pub number_is : (bs : List ℕ) → (number_len bs == 0) ≡ false → IsUnsigned (take (number_len bs) bs)
number_is bs = by (mantissa_len bs == 0) refl
  where
    by : (t : Bool) → (mantissa_len bs == 0) ≡ t → ((if t then 0 else mantissa_len bs + exponent_len (drop (mantissa_len bs) bs)) == 0) ≡ false → IsUnsigned (take (if t then 0 else mantissa_len bs + exponent_len (drop (mantissa_len bs) bs)) bs)
    by true e h = absurd (cc)
    by false e h =
        let n = digits bs in
        let f = fraction_len (not (n == 0)) (drop n bs) in
        record {
          whole = take n bs;
          fraction = take f (drop n bs);
          exponent = take (exponent_len (drop (mantissa_len bs) bs)) (drop (mantissa_len bs) bs);
          all = take-add (mantissa_len bs) (exponent_len (drop (mantissa_len bs) bs)) bs
              ∙ ap (λ (xs : List ℕ). xs ++ take (exponent_len (drop (mantissa_len bs) bs)) (drop (mantissa_len bs) bs)) (take-add n f bs)
              ∙ append_assoc (take n bs) (take f (drop n bs)) (take (exponent_len (drop (mantissa_len bs) bs)) (drop (mantissa_len bs) bs));
          whole_is = all_taken is_digit bs;
          fraction_is = fraction_is (not (n == 0)) (drop n bs);
          exponent_is = exponent_is (drop (mantissa_len bs) bs);
          some = mantissa_some bs e;
        }

-- a digit begins a number
pub no_number : (b : ℕ) (bs : List ℕ) → (number_len (b ∷ bs) == 0) ≡ true → is_digit b ≡ false
no_number b bs h = by (is_digit b) refl
  where
    longer : (t : Bool) (m n : ℕ) → (m == 0) ≡ t → 0 < m → ((if t then 0 else m + n) == 0) ≡ true → false ≡ true
    longer true m n e some k = let none = eqb-true m 0 e in absurd (omega arith)
    longer false m n e some k = let none = eqb-true (m + n) 0 k in absurd (omega arith)

    by : (t : Bool) → is_digit b ≡ t → is_digit b ≡ false
    by false e = e
    by true e =
        let some : 0 < digits (b ∷ bs) = (let first : digits (b ∷ bs) ≡ 1 + digits bs = rw e refl in omega (arith, first)) in
        let more : 0 < mantissa_len (b ∷ bs) = omega (arith, some) in
        absurd (let clash : false ≡ true = longer (mantissa_len (b ∷ bs) == 0) (mantissa_len (b ∷ bs)) (exponent_len (drop (mantissa_len (b ∷ bs)) (b ∷ bs))) refl more h in cc)
