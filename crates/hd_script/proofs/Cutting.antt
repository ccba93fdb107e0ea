-- Passing over the gaps and the words of a line.
use Rattle.std.proofs.Common.{◌≡◌, ℕ, zero, suc, ◌+◌, ◌<◌, List, [], ◌∷◌, Bool, true, false, not, length, drop, get_or, refl, sym, ap, ◌∙◌, arith, add-one, inl, inr}
use Rattle.std.proofs.lemmas.Bool.{cases_lt}
use Rattle.std.proofs.lemmas.Bool.Decides.{nat_tests}
use Rattle.std.proofs.lemmas.List.Sums.{prefix_len-le-length, prefix_len_passes, prefix_len_stops}
use Rattle.std.proofs.lemmas.Str.{IsCharBoundary-start, IsCharBoundary-end, IsCharBoundary-after_ascii, IsCharBoundary-before_ascii}
use Rattle.std.specs.List.{prefix_len}
use Rattle.std.specs.Str.{IsUtf8, IsCharBoundary}
use Rattle.hd_script.specs.Lines.{is_gap, is_solid, without_gaps, word_at, words_from, words}

drop_one_more : {X : Type 0} (n : ℕ) (x : X) (xs : List X) → drop (1 + n) (x ∷ xs) ≡ drop n xs
drop_one_more n x xs = let e : 1 + n ≡ suc n = omega arith in rw e refl

drop_yes : {X : Type 0} (p : X → Bool) (x : X) (xs : List X) → p x ≡ true → drop (prefix_len p (x ∷ xs)) (x ∷ xs) ≡ drop (prefix_len p xs) xs
drop_yes p x xs e = rw e (drop_one_more (prefix_len p xs) x xs)

drop_no : {X : Type 0} (p : X → Bool) (x : X) (xs : List X) → p x ≡ false → drop (prefix_len p (x ∷ xs)) (x ∷ xs) ≡ x ∷ xs
drop_no p x xs e = rw e refl

-- a gap ends a word
gap_passes : (inside : Bool) (b : ℕ) (bs : List ℕ) → is_gap b ≡ true → words_from inside (b ∷ bs) ≡ words_from false bs
gap_passes inside b bs e = rw e refl

-- another byte belongs to the word
word_goes_on : (b : ℕ) (bs : List ℕ) → is_gap b ≡ false → words_from true (b ∷ bs) ≡ words_from true bs
word_goes_on b bs e = rw e refl

-- or begins one
word_begins : (b : ℕ) (bs : List ℕ) → is_gap b ≡ false → words_from false (b ∷ bs) ≡ word_at (b ∷ bs) ∷ words_from true bs
word_begins b bs e = rw e refl

-- gaps pass
gaps_pass : (text : List ℕ) → words_from false (without_gaps text) ≡ words_from false text
gaps_pass [] = refl
gaps_pass (b ∷ bs) = by_gap (gaps_pass bs) (is_gap b) refl
  where
    by_gap : words_from false (without_gaps bs) ≡ words_from false bs → (t : Bool) → is_gap b ≡ t → words_from false (without_gaps (b ∷ bs)) ≡ words_from false (b ∷ bs)
    by_gap rest true e = ap (words_from false) (drop_yes is_gap b bs e) ∙ rest ∙ sym (gap_passes false b bs e)
    by_gap rest false e = ap (words_from false) (drop_no is_gap b bs e)

-- what belongs to a word passes
solids_pass : (text : List ℕ) → words_from false (drop (prefix_len is_solid text) text) ≡ words_from true text
solids_pass [] = refl
solids_pass (b ∷ bs) = by_gap (solids_pass bs) (is_gap b) refl
  where
    by_gap : words_from false (drop (prefix_len is_solid bs) bs) ≡ words_from true bs → (t : Bool) → is_gap b ≡ t
        → words_from false (drop (prefix_len is_solid (b ∷ bs)) (b ∷ bs)) ≡ words_from true (b ∷ bs)
    by_gap rest true e = ap (words_from false) (drop_no is_solid b bs (ap not e)) ∙ gap_passes false b bs e ∙ sym (gap_passes true b bs e)
    by_gap rest false e = ap (words_from false) (drop_yes is_solid b bs (ap not e)) ∙ rest ∙ sym (word_goes_on b bs e)

-- after the gaps is none
no_gap : (text : List ℕ) → prefix_len is_gap (without_gaps text) ≡ 0
no_gap [] = refl
no_gap (b ∷ bs) = by_gap (no_gap bs) (is_gap b) refl
  where
    by_gap : prefix_len is_gap (without_gaps bs) ≡ 0 → (t : Bool) → is_gap b ≡ t → prefix_len is_gap (without_gaps (b ∷ bs)) ≡ 0
    by_gap rest true e = ap (prefix_len is_gap) (drop_yes is_gap b bs e) ∙ rest
    by_gap rest false e = let none : prefix_len is_gap (b ∷ bs) ≡ 0 = rw e refl in ap (prefix_len is_gap) (drop_no is_gap b bs e) ∙ none

-- a text without gaps before it begins with a word
begins_with_word : (text : List ℕ) → prefix_len is_gap text ≡ 0 → 0 < length text → words_from false text ≡ word_at text ∷ words_from false (word_at text).after
begins_with_word [] none some = absurd (omega arith)
begins_with_word (b ∷ bs) none some = by_gap (is_gap b) refl
  where
    by_gap : (t : Bool) → is_gap b ≡ t → words_from false (b ∷ bs) ≡ word_at (b ∷ bs) ∷ words_from false (word_at (b ∷ bs)).after
    by_gap true e = let more : 1 + prefix_len is_gap bs ≡ 0 = rw e at none in absurd (omega arith)
    by_gap false e = word_begins b bs e ∙ ap (λ ws. word_at (b ∷ bs) ∷ ws) (sym (word_goes_on b bs e) ∙ sym (solids_pass (b ∷ bs)))

-- the next word of a line
pub next_word : (line : List ℕ) → 0 < length (without_gaps line) → words line ≡ word_at (without_gaps line) ∷ words (word_at (without_gaps line)).after
unfolding words
next_word line some = sym (gaps_pass line) ∙ begins_with_word (without_gaps line) (no_gap line) some

empty_is : {X : Type 0} (xs : List X) → length xs ≡ 0 → xs ≡ []
empty_is [] e = refl
empty_is (x ∷ xs) e = absurd (omega arith)

-- gaps alone have no word
pub no_word : (line : List ℕ) → length (without_gaps line) ≡ 0 → words line ≡ []
unfolding words
no_word line none = sym (gaps_pass line) ∙ ap (words_from false) (empty_is (without_gaps line) none)

gap_is_ascii : (b : ℕ) → is_gap b ≡ true → b < 128
gap_is_ascii b e = grind (arith, nat_tests)

stops_at_ascii : (b : ℕ) → is_solid b ≡ false → b < 128
stops_at_ascii b e = grind (arith, nat_tests)

-- a text may be cut after its gaps
pub cut_after_gaps : (text : List ℕ) (n : ℕ) → IsUtf8 text → n ≡ prefix_len is_gap text → IsCharBoundary text n
cut_after_gaps text zero utf8 is = IsCharBoundary-start text utf8
cut_after_gaps text (suc n) utf8 is =
    let bound = prefix_len-le-length is_gap text in
    let gap = gap_is_ascii (get_or text n 0) (prefix_len_passes is_gap text n 0 (omega arith)) in
    rw (← (add-one n)) (IsCharBoundary-after_ascii text n utf8 (omega arith) gap)

-- a text may be cut after its first word
pub cut_after_word : (text : List ℕ) (n : ℕ) → n ≡ prefix_len is_solid text → IsCharBoundary text n
cut_after_word text n is = elim (cases_lt n (length text)) [
  | inl h ↦ IsCharBoundary-before_ascii text n h (stops_at_ascii (get_or text n 0) (rw is (prefix_len_stops is_solid text 0 (omega arith))))
  | inr h ↦ (let bound = prefix_len-le-length is_solid text in let whole : n ≡ length text = omega arith in rw whole (IsCharBoundary-end text))
]
