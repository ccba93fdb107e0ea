-- A token's bytes and its text.
use Rattle.std.proofs.Common.{◌≡◌, ◌⊎◌, ℕ, zero, suc, ◌+◌, ◌-◌, inl, inr, Bool, true, false, ◌&&◌, ◌||◌, not, nat_eq, ◌==◌, if◌then◌else◌, Option, Some, None, List, [], ◌∷◌, ◌++◌, length, take, drop, codes, refl, sym, ap, subst, ◌∙◌, arith, add-one}
use Rattle.std.proofs.lemmas.Bool.{or_cases, eqb-true, not-true, not-false, eq-eqb}
use Rattle.std.proofs.Math.Seq.{take-append_seam}
use Rattle.std.proofs.lemmas.Bool.Decides.{Decides-eqb}
use Rattle.std.proofs.lemmas.Slice.Eq.{starts_is}
use Rattle.std.specs.List.{list_all, prefix_len, starts_with}
use Rattle.hd_path.specs.Names.{is_letter, is_digit, is_word}
use Rattle.hd_tokens.specs.Names.{is_non_finite_word, is_plain_word}
use Rattle.hd_lexer.specs.declared.lexer.Kind.{Kind}
use Rattle.hd_lexer.specs.declared.lexer.Kind.TheVariants.{Word, Number, Text, Asset, PathText, OpenRound, CloseRound, OpenSquare, CloseSquare, OpenCurly, CloseCurly, Equals, Comma, Colon, Semicolon, Point}
use Rattle.hd_lexer.specs.Lexing.{RawToken, Quoting, begins, digits, fraction_len, sign_len, is_sign, is_exponent, exponent_len, mantissa_len, number_len, number_token, signed_token, word_token, no_token, token_of, mark_of, inside_from, inside_len, on_line, between_three, short_token, long_token, quoted_token, raw_token_at}
use Rattle.hd_lexer.specs.Laws.{IsWritten, in_path, IsEnclosed, IsUnsigned}
use Rattle.hd_lexer.specs.Laws.IsNumber.{numeric, non_finite, minus_infinity}
use Rattle.hd_lexer.proofs.Numbers.{number_is, no_number}
use Rattle.hd_lexer.proofs.Runs.{run_ends, all_taken, drop_on}

-- what the piece says of the byte and those after it
abbrev pub Writes : ℕ → List ℕ → RawToken → Type 0
Writes b bs p = IsWritten p.kind (b ∷ take p.more bs) (drop p.more bs) p.text

choose : {A : Type 0} (P : A → Type 0) (t : Bool) (x y : A) → (t ≡ true → P x) → (t ≡ false → P y) → P (if t then x else y)
choose P true x y h k = h refl
choose P false x y h k = k refl

-- ---- numbers

fraction_ends : (may_miss : Bool) (bs : List ℕ) → begins is_digit bs ≡ false → begins is_digit (drop (fraction_len may_miss bs) bs) ≡ false
fraction_ends may_miss [] h = refl
fraction_ends may_miss (b ∷ bs) h =
    choose (λ n. begins is_digit (drop n (b ∷ bs)) ≡ false) ((b == 46) && (may_miss || not (digits bs == 0))) (digits bs + 1) 0 (λ _. rw (add-one (digits bs)) (run_ends is_digit bs)) (λ _. h)

exponent_ends : (bs : List ℕ) → begins is_digit bs ≡ false → begins is_digit (drop (exponent_len bs) bs) ≡ false
exponent_ends [] h = refl
exponent_ends (b ∷ bs) h =
    let n = digits (drop (sign_len bs) bs) in
    choose (λ k. begins is_digit (drop k (b ∷ bs)) ≡ false) (is_exponent b && not (n == 0)) (sign_len bs + n + 1) 0
    (λ _. rw (add-one (sign_len bs + n), drop_on (sign_len bs) n bs) (run_ends is_digit (drop (sign_len bs) bs))) (λ _. h)

mantissa_ends : (bs : List ℕ) → begins is_digit (drop (mantissa_len bs) bs) ≡ false
mantissa_ends bs =
    let n = digits bs in
    rw (drop_on n (fraction_len (not (n == 0)) (drop n bs)) bs) (fraction_ends (not (n == 0)) (drop n bs) (run_ends is_digit bs))

number_ends : (bs : List ℕ) → (number_len bs == 0) ≡ false → begins is_digit (drop (number_len bs) bs) ≡ false
number_ends bs = by (mantissa_len bs == 0) refl
  where
    by : (t : Bool) → (mantissa_len bs == 0) ≡ t → (number_len bs == 0) ≡ false → begins is_digit (drop (number_len bs) bs) ≡ false
    by true e h = absurd (let g : (0 == 0) ≡ false = rw e at h in cc)
    by false e h = rw (e, drop_on (mantissa_len bs) (exponent_len (drop (mantissa_len bs) bs)) bs) (exponent_ends (drop (mantissa_len bs) bs) (mantissa_ends bs))

-- ---- words, numbers and marks

word_writes : (b : ℕ) (bs : List ℕ) → is_letter b ≡ true → Writes b bs (word_token (b ∷ bs) (prefix_len is_word bs))
word_writes b bs letter =
    let n = prefix_len is_word bs in
    let text = b ∷ take n bs in
    let same : take (n + 1) (b ∷ bs) ≡ text = rw (add-one n) refl in
    rw same (choose (λ k. IsWritten k text (drop n bs) text) (is_non_finite_word text) Number Word
    (λ e. (non_finite e (run_ends is_word bs), refl))
    (λ e. ((let plain : is_plain_word text ≡ true = rw (letter, all_taken is_word bs, e) refl in plain), run_ends is_word bs, refl)))

bad_writes : (b : ℕ) (bs : List ℕ) → is_word b ≡ false → Writes b bs no_token
bad_writes b bs none = (refl, none, inl refl)

number_writes : (b : ℕ) (bs : List ℕ) → (number_len (b ∷ bs) == 0) ≡ false → Writes b bs (number_token (b ∷ bs) (number_len (b ∷ bs)))
number_writes b bs some = by (number_len (b ∷ bs)) some (number_is (b ∷ bs) some) (number_ends (b ∷ bs) some)
  where
    by : (n : ℕ) → (n == 0) ≡ false → IsUnsigned (take n (b ∷ bs)) → begins is_digit (drop n (b ∷ bs)) ≡ false → Writes b bs (number_token (b ∷ bs) n)
    by zero h is k = absurd (cc)
    by (suc n) h is k = let less : suc n - 1 ≡ n = omega arith in rw less (numeric (inl is) k, refl)

starts_front : (bs p : List ℕ) → starts_with nat_eq bs p ≡ true → take (length p) bs ≡ p
starts_front bs p h = ap (take (length p)) ((starts_is Decides-eqb bs p (starts_with nat_eq bs p) refl).0 h) ∙ take-append_seam p (drop (length p) bs)

signed_writes : (b : ℕ) (bs : List ℕ) → is_word b ≡ false → is_sign b ≡ true → Writes b bs (signed_token (b ∷ bs))
signed_writes b bs none sign =
    choose (Writes b bs) (not (number_len bs == 0)) (token_of Number (b ∷ bs) (number_len bs)) (if starts_with nat_eq (b ∷ bs) (codes "-inf") then token_of Number (b ∷ bs) 3 else no_token)
    (λ h. (let n = number_len bs in
    let same : take (n + 1) (b ∷ bs) ≡ b ∷ take n bs = rw (add-one n) refl in
    rw same (numeric (inr (sign, number_is bs (not-true (n == 0) h))) (number_ends bs (not-true (n == 0) h)), refl)))
    (λ _. choose (Writes b bs) (starts_with nat_eq (b ∷ bs) (codes "-inf")) (token_of Number (b ∷ bs) 3) no_token
    (λ h. (minus_infinity (starts_front (b ∷ bs) (codes "-inf") h), refl))
    (λ _. bad_writes b bs none))

-- a mark, or a byte that begins nothing
mark_writes : (b : ℕ) (bs : List ℕ) → is_word b ≡ false → Writes b bs (token_of (mark_of b) (b ∷ bs) 0)
mark_writes b bs none =
    next 40 OpenRound _ (λ e. (e, refl)) (next 41 CloseRound _ (λ e. (e, refl)) (next 91 OpenSquare _ (λ e. (e, refl)) (next 93 CloseSquare _ (λ e. (e, refl)) (next 123 OpenCurly _ (λ e. (e, refl)) (next 125 CloseCurly _ (λ e. (e, refl))
    (next 61 Equals _ (λ e. (e, refl)) (next 44 Comma _ (λ e. (e, refl)) (next 58 Colon _ (λ e. (e, refl)) (next 59 Semicolon _ (λ e. (e, refl)) (next 46 Point _ (λ e. (e, refl)) (refl, none, inr refl)))))))))))
  where
    next : (mark : ℕ) (kind other : Kind) → (b ∷ [] ≡ mark ∷ [] → IsWritten kind (b ∷ []) bs (b ∷ [])) → IsWritten other (b ∷ []) bs (b ∷ []) → IsWritten (if b == mark then kind else other) (b ∷ []) bs (b ∷ [])
    next mark kind other h k = choose (λ x. IsWritten x (b ∷ []) bs (b ∷ [])) (b == mark) kind other (λ e. h (ap (λ x. x ∷ []) (eqb-true b mark e))) (λ _. k)

-- ---- between marks

split_if : (t : Bool) {x y : Option ℕ} {k : ℕ} → (if t then x else y) ≡ Some k → (x ≡ Some k) ⊎ ((t ≡ false) × (y ≡ Some k))
split_if true h = inl h
split_if false h = inr (refl, h)

-- where the first close is found, the bytes before it and the close itself are at the front
pub record Closes (close : List ℕ) (m k : ℕ) (bs : List ℕ) : Type 0 where
  i : ℕ
  place : k ≡ m + i
  front : take (i + length close) bs ≡ take i bs ++ close

closes_on : (close : List ℕ) (m k b : ℕ) (bs : List ℕ) → Closes close (m + 1) k bs → Closes close m k (b ∷ bs)
closes_on close m k b bs c =
    let more : suc c.i + length close ≡ suc (c.i + length close) = omega arith in
    record { i = suc c.i; place = omega (arith, c.place); front = rw more (ap (λ (xs : List ℕ). b ∷ xs) c.front) }

closes_from : (q : Quoting) (escaped : Bool) (m k : ℕ) (bs : List ℕ) → inside_from q escaped m bs ≡ Some k → Closes q.close m k bs
closes_from q escaped m k [] h = absurd (cc)
closes_from q escaped m k (b ∷ bs) h =
    pick h (closes_from q false (m + 1) k bs) (closes_from q (q.escapes && (b == 92)) (m + 1) k bs)
  where
    pick : inside_from q escaped m (b ∷ bs) ≡ Some k → (inside_from q false (m + 1) bs ≡ Some k → Closes q.close (m + 1) k bs) → (inside_from q (q.escapes && (b == 92)) (m + 1) bs ≡ Some k → Closes q.close (m + 1) k bs) → Closes q.close m k (b ∷ bs)
    pick h one on =
        elim (split_if ((b == 10) && not q.lines) h) [
          | inl none ↦ absurd (cc)
          | inr past ↦ elim (by_escape escaped past.1) [
            | inl passed ↦ closes_on q.close m k b bs (one passed)
            | inr test ↦ by_close (starts_with nat_eq (b ∷ bs) q.close) refl test on
          ]
        ]
      where
        by_escape : (t : Bool) {x y : Option ℕ} → (if t then x else y) ≡ Some k → (x ≡ Some k) ⊎ (y ≡ Some k)
        by_escape true e = inl e
        by_escape false e = inr e

        by_close : (t : Bool) → starts_with nat_eq (b ∷ bs) q.close ≡ t → (if t then Some m else inside_from q (q.escapes && (b == 92)) (m + 1) bs) ≡ Some k → (inside_from q (q.escapes && (b == 92)) (m + 1) bs ≡ Some k → Closes q.close (m + 1) k bs) → Closes q.close m k (b ∷ bs)
        by_close true e found on =
            let same : m ≡ k = cc in
            let none : 0 + length q.close ≡ length q.close = omega arith in
            record { i = 0; place = omega arith; front = rw none (starts_front (b ∷ bs) q.close e) }
        by_close false e found on = closes_on q.close m k b bs (on found)

closed : (q : Quoting) (k : ℕ) (bs : List ℕ) → inside_len q bs ≡ Some k → take (k + length q.close) bs ≡ take k bs ++ q.close
closed q k bs h = let c = closes_from q false 0 k bs h in let same : c.i ≡ k = omega (arith, c.place) in subst (λ i. take (i + length q.close) bs ≡ take i bs ++ q.close) same c.front

-- no byte before the first `>` is one, or a line feed
pub record StaysInPath (m k : ℕ) (bs : List ℕ) : Type 0 where
  i : ℕ
  place : k ≡ m + i
  holds : list_all in_path (take i bs) ≡ true

path_from : (m k : ℕ) (bs : List ℕ) → inside_from (on_line 62 false) false m bs ≡ Some k → StaysInPath m k bs
path_from m k [] h = absurd (cc)
path_from m k (b ∷ bs) h = by (b == 10) refl (b == 62) refl h (path_from (m + 1) k bs)
  where
    next : (m k b : ℕ) (bs : List ℕ) → in_path b ≡ true → StaysInPath (m + 1) k bs → StaysInPath m k (b ∷ bs)
    next m k b bs e r = record { i = suc r.i; place = omega (arith, r.place); holds = rw e r.holds }

    by : (t : Bool) → (b == 10) ≡ t → (u : Bool) → (b == 62) ≡ u → inside_from (on_line 62 false) false m (b ∷ bs) ≡ Some k → (inside_from (on_line 62 false) false (m + 1) bs ≡ Some k → StaysInPath (m + 1) k bs) → StaysInPath m k (b ∷ bs)
    by true e u f h on = absurd (let none : None ≡ Some k = rw e at h in cc)
    by false e true f h on =
        let same : b ≡ 62 = eqb-true b 62 f in
        let found : Some m ≡ Some k = rw same at h in
        let here : m ≡ k = cc in
        record { i = 0; place = omega arith; holds = refl }
    by false e false f h on =
        let turned : (62 == b) ≡ false = not-eqb_turned f in
        let rest : inside_from (on_line 62 false) false (m + 1) bs ≡ Some k = rw (e, turned) at h in
        next m k b bs (rw (f, e) refl) (on rest)
      where
        not-eqb_turned : (b == 62) ≡ false → (62 == b) ≡ false
        not-eqb_turned f = try (62 == b) refl
          where
            try : (t : Bool) → (62 == b) ≡ t → (62 == b) ≡ false
            try false e = e
            try true e = absurd (let back : (b == 62) ≡ true = eq-eqb b 62 (sym (eqb-true 62 b e)) in cc)

in_path_text : (k : ℕ) (bs : List ℕ) → inside_len (on_line 62 false) bs ≡ Some k → list_all in_path (take k bs) ≡ true
in_path_text k bs h = let r = path_from 0 k bs h in let same : r.i ≡ k = omega (arith, r.place) in subst (λ i. list_all in_path (take i bs) ≡ true) same r.holds

-- ---- what begins with a mark

three_more : (k : ℕ) → k + 3 ≡ suc (suc (suc k))
three_more k = omega arith

five_more : (k : ℕ) → k + 5 ≡ suc (suc (suc (suc (suc k))))
five_more k = omega arith

-- what a kind of token that is between marks may hold
short_writes : (kind : Kind) (b mark : ℕ) (bs : List ℕ) (escapes : Bool) → is_word b ≡ false → ((k : ℕ) → inside_len (on_line mark escapes) bs ≡ Some k → (rest : List ℕ) → IsWritten kind (b ∷ (take k bs ++ mark ∷ [])) rest (take k bs))
    → Writes b bs (short_token kind bs (inside_len (on_line mark escapes) bs))
short_writes kind b mark bs escapes none is = by (inside_len (on_line mark escapes) bs) refl
  where
    by : (o : Option ℕ) → inside_len (on_line mark escapes) bs ≡ o → Writes b bs (short_token kind bs o)
    by None e = bad_writes b bs none
    by (Some k) e = let front : take (k + 1) bs ≡ take k bs ++ mark ∷ [] = closed (on_line mark escapes) k bs e in rw front (is k e (drop (k + 1) bs))

quoted_writes : (kind : Kind) (mark : ℕ) (bs : List ℕ) (escapes : Bool) → is_word mark ≡ false → ((bytes text rest : List ℕ) → IsEnclosed mark bytes text → IsWritten kind bytes rest text) → Writes mark bs (quoted_token kind mark escapes bs)
quoted_writes kind mark bs escapes none_here is =
    choose (Writes mark bs) (starts_with nat_eq bs (mark ∷ mark ∷ [])) (long_token kind bs short (inside_len (between_three mark escapes) (drop 2 bs))) short
    (λ h. by (starts_front bs (mark ∷ mark ∷ []) h) (inside_len (between_three mark escapes) (drop 2 bs)) refl)
    (λ _. short_is)
  where
    short : RawToken
    short = short_token kind bs (inside_len (on_line mark escapes) bs)

    short_is : Writes mark bs (short_token kind bs (inside_len (on_line mark escapes) bs))
    short_is = short_writes kind mark mark bs escapes none_here (λ k _ rest. is (mark ∷ (take k bs ++ mark ∷ [])) (take k bs) rest (inl refl))

    by : take 2 bs ≡ mark ∷ mark ∷ [] → (o : Option ℕ) → inside_len (between_three mark escapes) (drop 2 bs) ≡ o → Writes mark bs (long_token kind bs (short_token kind bs (inside_len (on_line mark escapes) bs)) o)
    by two None e = short_is
    by two (Some k) e =
        let inner : take (k + 3) (drop 2 bs) ≡ take k (drop 2 bs) ++ mark ∷ mark ∷ mark ∷ [] = closed (between_three mark escapes) k (drop 2 bs) e in
        let front : take (k + 5) bs ≡ take 2 bs ++ take (k + 3) (drop 2 bs) = rw (five_more k, three_more k) (two_and bs (suc (suc (suc k)))) in
        is (mark ∷ take (k + 5) bs) (take k (drop 2 bs)) (drop (k + 5) bs) (inr (ap (λ (xs : List ℕ). mark ∷ xs) (front ∙ ap (λ (xs : List ℕ). xs ++ take (k + 3) (drop 2 bs)) two ∙ ap (λ (xs : List ℕ). mark ∷ mark ∷ xs) inner)))
      where
        none : (n : ℕ) → [] ≡ take {A = ℕ} n []
        none zero = refl
        none (suc n) = refl

        two_and : (xs : List ℕ) (n : ℕ) → take (suc (suc n)) xs ≡ take 2 xs ++ take n (drop 2 xs)
        two_and [] n = none n
        two_and (x ∷ []) n = ap (λ (ys : List ℕ). x ∷ ys) (none n)
        two_and (x ∷ y ∷ xs) n = refl

no_word : (b : ℕ) (bs : List ℕ) → is_letter b ≡ false → (number_len (b ∷ bs) == 0) ≡ true → is_word b ≡ false
no_word b bs letter number = let digit = no_number b bs number in rw (letter, digit) refl

-- the piece at a byte holds its text
pub piece_writes : (b : ℕ) (bs : List ℕ) → Writes b bs (raw_token_at b bs)
unfolding raw_token_at
piece_writes b bs =
    choose (Writes b bs) (is_letter b) _ _ (λ h. word_writes b bs h) (λ letter.
    choose (Writes b bs) (not (number_len (b ∷ bs) == 0)) _ _ (λ h. number_writes b bs (not-true (number_len (b ∷ bs) == 0) h)) (λ number. let none : is_word b ≡ false = no_word b bs letter (not-false (number_len (b ∷ bs) == 0) number) in
    choose (Writes b bs) (is_sign b) _ _ (λ h. signed_writes b bs none h) (λ _.
    choose (Writes b bs) ((b == 34) || (b == 39)) _ _ (λ h. elim (or_cases (b == 34) (b == 39) h) [
      | inl e ↦ subst (λ m. Writes m bs (quoted_token Text m true bs)) (sym (eqb-true b 34 e)) (quoted_writes Text 34 bs true refl (λ bytes text rest is. inl is))
      | inr e ↦ subst (λ m. Writes m bs (quoted_token Text m true bs)) (sym (eqb-true b 39 e)) (quoted_writes Text 39 bs true refl (λ bytes text rest is. inr is))
    ]) (λ _.
    choose (Writes b bs) (b == 64) _ _ (λ e. subst (λ m. Writes m bs (quoted_token Asset m false bs)) (sym (eqb-true b 64 e)) (quoted_writes Asset 64 bs false refl (λ bytes text rest is. is))) (λ _.
    choose (Writes b bs) (b == 60) _ _ (λ e. short_writes PathText b 62 bs false none (λ k found rest. (ap (λ x. x ∷ (take k bs ++ 62 ∷ [])) (eqb-true b 60 e), in_path_text k bs found))) (λ _.
    mark_writes b bs none))))))
