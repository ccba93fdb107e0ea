-- The bytes of a name are above a slash.
use Rattle.std.proofs.Common.{◌≡◌, ℕ, zero, suc, ◌+◌, ◌<◌, ◌≤◌, Bool, true, false, ◌&&◌, List, [], ◌∷◌, ◌++◌, length, refl, arith, get_or}
use Rattle.std.proofs.lemmas.Bool.Decides.{nat_tests}
use Rattle.std.proofs.lemmas.Bool.{false≢true}
use Rattle.std.proofs.lemmas.List.Elements.{All-head, All-tail}
use Rattle.std.proofs.lemmas.List.Sums.{prefix_len-le-length}
use Rattle.std.specs.Prelude.{All}
use Rattle.std.specs.List.{list_all, prefix_len}
use Rattle.hd_path.specs.Paths.{Path}
use Rattle.hd_path.specs.Names.{Name, is_letter, is_word, is_identifier, identifier_len, IsName}
use Rattle.hd_path.specs.Parsing.{is_slash}

pub word_range : (b : ℕ) → is_word b ≡ true → (47 < b) × (b < 128)
word_range b h = grind (arith, nat_tests)

pub above_no_slash : (b : ℕ) → 47 < b → is_slash b ≡ false
above_no_slash b h = grind (arith, nat_tests)

-- each byte is above a slash and below 128
abbrev pub Plain : List ℕ → Type 0
Plain [] = Unit {0}
Plain (b ∷ bs) = (47 < b) × (b < 128) × Plain bs

abbrev pub AllPlain : List Name → Type 0
AllPlain [] = Unit {0}
AllPlain (name ∷ names) = Plain name × AllPlain names

pub first_of_and : (x y : Bool) → (x && y) ≡ true → x ≡ true
first_of_and true y h = refl
first_of_and false y h = absurd (false≢true h)

pub second_of_and : (x y : Bool) → (x && y) ≡ true → y ≡ true
second_of_and true y h = h
second_of_and false y h = absurd (false≢true h)

pub letter_is_word : (b : ℕ) → is_letter b ≡ true → is_word b ≡ true
letter_is_word b h = grind (arith, nat_tests)

pub words_plain : (bs : List ℕ) → list_all is_word bs ≡ true → Plain bs
words_plain [] h = tt
words_plain (b ∷ bs) h =
    let r = word_range b (first_of_and (is_word b) (list_all is_word bs) h) in
    (r.0, r.1, words_plain bs (second_of_and (is_word b) (list_all is_word bs) h))

pub all_words : (name : List ℕ) → is_identifier name ≡ true → list_all is_word name ≡ true
all_words [] h = refl
all_words (b ∷ bs) h =
    let w : is_word b ≡ true = letter_is_word b (first_of_and (is_letter b) (list_all is_word bs) h) in
    let r : list_all is_word bs ≡ true = second_of_and (is_letter b) (list_all is_word bs) h in
    rw (w, r) refl

pub name_plain : (name : List ℕ) → IsName name → Plain name
name_plain name h = words_plain name (all_words name h.identifier)

pub names_plain : (names : Path) → All IsName names → AllPlain names
names_plain [] h = tt
names_plain (name ∷ names) h =
    (name_plain name (All-head IsName name names h), names_plain names (All-tail IsName name names h))

pub name_not_empty : (name : List ℕ) → IsName name → 0 < length name
name_not_empty [] h = absurd (false≢true h.identifier)
name_not_empty (b ∷ bs) h = omega arith

-- an identifier is all that belongs to it
prefix_all : (bs : List ℕ) → list_all is_word bs ≡ true → prefix_len is_word bs ≡ length bs
prefix_all [] h = refl
prefix_all (b ∷ bs) h =
    let w : is_word b ≡ true = first_of_and (is_word b) (list_all is_word bs) h in
    let r = prefix_all bs (second_of_and (is_word b) (list_all is_word bs) h) in
    rw (w, r) (omega arith)

pub identifier_len-identifier : (name : List ℕ) → is_identifier name ≡ true → identifier_len name ≡ length name
identifier_len-identifier [] h = refl
identifier_len-identifier (b ∷ bs) h =
    let l : is_letter b ≡ true = first_of_and (is_letter b) (list_all is_word bs) h in
    let r = prefix_all bs (second_of_and (is_letter b) (list_all is_word bs) h) in
    rw l (omega arith)

pub words_all : (bs : List ℕ) → prefix_len is_word bs ≡ length bs → list_all is_word bs ≡ true
words_all [] h = refl
words_all (b ∷ bs) h = by_word (is_word b) refl (words_all bs)
  where
    by_word : (w : Bool) → is_word b ≡ w → (prefix_len is_word bs ≡ length bs → list_all is_word bs ≡ true) → list_all is_word (b ∷ bs) ≡ true
    by_word true e rest = let s : 1 + prefix_len is_word bs ≡ length (b ∷ bs) = rw e at h in rw e (rest (omega arith))
    by_word false e rest = let s : 0 ≡ length (b ∷ bs) = rw e at h in absurd (omega arith)

-- and where all belongs to it, it is an identifier
pub identifier-identifier_len : (name : List ℕ) → 0 < length name → identifier_len name ≡ length name → is_identifier name ≡ true
identifier-identifier_len [] some h = absurd (omega arith)
identifier-identifier_len (b ∷ bs) some h = by_letter (is_letter b) refl
  where
    by_letter : (l : Bool) → is_letter b ≡ l → is_identifier (b ∷ bs) ≡ true
    by_letter true e = let s : 1 + prefix_len is_word bs ≡ length (b ∷ bs) = rw e at h in rw e (words_all bs (omega arith))
    by_letter false e = let s : 0 ≡ length (b ∷ bs) = rw e at h in absurd (omega arith)

pub identifier_len-letter : (bytes : List ℕ) → 0 < length bytes → is_letter (get_or bytes 0 0) ≡ true → identifier_len bytes ≡ prefix_len is_word bytes
identifier_len-letter [] some h = refl
identifier_len-letter (b ∷ bs) some h = rw h refl

pub identifier_len-other : (bytes : List ℕ) → is_letter (get_or bytes 0 0) ≡ false → identifier_len bytes ≡ 0
identifier_len-other [] h = refl
identifier_len-other (b ∷ bs) h = rw h refl

pub identifier_len-le : (bytes : List ℕ) → identifier_len bytes ≤ length bytes
identifier_len-le [] = omega arith
identifier_len-le (b ∷ bs) = by_letter (is_letter b) refl
  where
    by_letter : (l : Bool) → is_letter b ≡ l → identifier_len (b ∷ bs) ≤ length (b ∷ bs)
    by_letter true e = let p = prefix_len-le-length is_word (b ∷ bs) in rw e (rw e at p)
    by_letter false e = rw e (omega arith)

-- an identifier before what is no part of one
words_then : (bs rest : List ℕ) → list_all is_word bs ≡ true → prefix_len is_word rest ≡ 0 → prefix_len is_word (bs ++ rest) ≡ length bs
words_then [] rest h none = none
words_then (b ∷ bs) rest h none =
    let w : is_word b ≡ true = first_of_and (is_word b) (list_all is_word bs) h in
    let r = words_then bs rest (second_of_and (is_word b) (list_all is_word bs) h) none in
    rw w (omega arith)

pub identifier_len-append : (name rest : List ℕ) → is_identifier name ≡ true → prefix_len is_word rest ≡ 0 → identifier_len (name ++ rest) ≡ length name
identifier_len-append [] rest h none = absurd (false≢true h)
identifier_len-append (b ∷ bs) rest h none =
    let l : is_letter b ≡ true = first_of_and (is_letter b) (list_all is_word bs) h in
    let r = words_then bs rest (second_of_and (is_letter b) (list_all is_word bs) h) none in
    rw l (omega arith)

pub Plain-get_or : (bs : List ℕ) (i : ℕ) → Plain bs → i < length bs → 47 < get_or bs i 0
Plain-get_or [] i h within = absurd (omega arith)
Plain-get_or (b ∷ bs) zero h within = h.0
Plain-get_or (b ∷ bs) (suc i) h within = Plain-get_or bs i h.2 (omega arith)

pub ruleset identifier_lens = (identifier_len-letter, identifier_len-other)
