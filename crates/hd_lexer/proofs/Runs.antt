-- Bytes at the front that pass a test.
use Rattle.std.proofs.Common.{◌≡◌, ℕ, suc, ◌+◌, Bool, true, false, List, [], ◌∷◌, take, drop, refl, sym, arith}
use Rattle.std.proofs.lemmas.Bool.{or_parts}
use Rattle.std.proofs.lemmas.List.{drop-drop}
use Rattle.std.specs.List.{list_all, prefix_len}
use Rattle.hd_path.specs.Names.{is_letter, is_digit, is_word}
use Rattle.hd_lexer.specs.Lexing.{begins}

pub one_more : (n : ℕ) → 1 + n ≡ suc n
one_more n = omega arith

pub all_taken : (test : ℕ → Bool) (bs : List ℕ) → list_all test (take (prefix_len test bs) bs) ≡ true
all_taken test [] = refl
all_taken test (b ∷ bs) = by (test b) refl (all_taken test bs)
  where
    by : (t : Bool) → test b ≡ t → list_all test (take (prefix_len test bs) bs) ≡ true → list_all test (take (prefix_len test (b ∷ bs)) (b ∷ bs)) ≡ true
    by true e rest = rw (e, one_more (prefix_len test bs), e) rest
    by false e rest = rw e refl

pub run_ends : (test : ℕ → Bool) (bs : List ℕ) → begins test (drop (prefix_len test bs) bs) ≡ false
run_ends test [] = refl
run_ends test (b ∷ bs) = by (test b) refl (run_ends test bs)
  where
    by : (t : Bool) → test b ≡ t → begins test (drop (prefix_len test bs) bs) ≡ false → begins test (drop (prefix_len test (b ∷ bs)) (b ∷ bs)) ≡ false
    by true e rest = rw (e, one_more (prefix_len test bs)) rest
    by false e rest = rw e e

pub no_digit : (bs : List ℕ) → begins is_word bs ≡ false → begins is_digit bs ≡ false
no_digit [] h = refl
no_digit (b ∷ bs) h = (or_parts (is_letter b) (is_digit b) h).1

pub drop_on : (m n : ℕ) (bs : List ℕ) → drop (m + n) bs ≡ drop n (drop m bs)
drop_on m n bs = sym (drop-drop n m bs)
