-- Texts of ASCII: words, names of properties, entries of op orders, and paths.
use Rattle.std.proofs.Common.{◌≡◌, ℕ, suc, ◌+◌, ◌<◌, List, [], ◌∷◌, Bool, true, false, ◌&&◌, ◌||◌, not, cond, nat_lt, if◌then◌else◌, None, take, drop, codes, IsAscii, bytes_eq, nat_eq, refl, sym, subst, arith, add-one}
use Rattle.std.proofs.lemmas.Bool.{and_from, and_parts}
use Rattle.std.proofs.lemmas.Bool.Decides.{nat_tests}
use Rattle.std.proofs.lemmas.Slice.Eq.{bytes_eq-Decides}
use Rattle.std.proofs.lemmas.Str.Ascii.{IsAscii-nil, IsAscii-cons}
use Rattle.std.specs.List.{list_all, prefix_len, slice_split, onto_first, starts_with}
use Rattle.hd_path.specs.Names.{is_letter, is_word, is_identifier}
use Rattle.hd_path.specs.Parsing.{is_slash}
use Rattle.hd_tokens.specs.Names.{is_non_finite_word, is_plain_word, is_colon, is_joined, is_any}
use Rattle.hd_tokens.specs.Properties.{visibilities, purposes, op_value_kind, first_part, op_kind_of, is_used, is_op_entry}
use Rattle.hd_usda.specs.used.Targets.{are_identifiers, is_prim_path}

-- the test of it
abbrev is_ascii : List ℕ → Bool
is_ascii bs = list_all (λ b. nat_lt b 128) bs

below : (b : ℕ) → nat_lt b 128 ≡ true → b < 128
below b h = grind (arith, nat_tests)

passes_test : (b : ℕ) → b < 128 → nat_lt b 128 ≡ true
passes_test b h = grind (arith, nat_tests)

tested : (bs : List ℕ) → is_ascii bs ≡ true → IsAscii bs
tested [] h = IsAscii-nil
tested (b ∷ bs) h = IsAscii-cons b bs (below b (and_parts (nat_lt b 128) (is_ascii bs) h).0) (tested bs (and_parts (nat_lt b 128) (is_ascii bs) h).1)

-- letters, digits and underscores
letter_below : (b : ℕ) → is_letter b ≡ true → b < 128
letter_below b h = grind (arith, nat_tests)

word_below : (b : ℕ) → is_word b ≡ true → b < 128
word_below b h = grind (arith, nat_tests)

all_words : (bs : List ℕ) → list_all is_word bs ≡ true → is_ascii bs ≡ true
all_words [] h = refl
all_words (b ∷ bs) h = and_from (nat_lt b 128) (is_ascii bs) (passes_test b (word_below b (and_parts (is_word b) (list_all is_word bs) h).0)) (all_words bs (and_parts (is_word b) (list_all is_word bs) h).1)

identifier_test : (bs : List ℕ) → is_identifier bs ≡ true → is_ascii bs ≡ true
identifier_test [] h = refl
identifier_test (b ∷ bs) h = and_from (nat_lt b 128) (is_ascii bs) (passes_test b (letter_below b (and_parts (is_letter b) (list_all is_word bs) h).0)) (all_words bs (and_parts (is_letter b) (list_all is_word bs) h).1)

pub identifier_ascii : (bs : List ℕ) → is_identifier bs ≡ true → IsAscii bs
identifier_ascii bs h = tested bs (identifier_test bs h)

-- the bytes of a word, at the front of some bytes
words_ascii : (bs : List ℕ) → IsAscii (take (prefix_len is_word bs) bs)
words_ascii [] = IsAscii-nil
words_ascii (b ∷ bs) = by_test (is_word b) refl (words_ascii bs)
  where
    by_test : (w : Bool) → is_word b ≡ w → IsAscii (take (prefix_len is_word bs) bs) → IsAscii (take (cond w (1 + prefix_len is_word bs) 0) (b ∷ bs))
    by_test true e rest = let one : 1 + prefix_len is_word bs ≡ suc (prefix_len is_word bs) = omega arith in rw one (IsAscii-cons b (take (prefix_len is_word bs) bs) (word_below b e) rest)
    by_test false e rest = IsAscii-nil

pub front_word_ascii : (b : ℕ) (bs : List ℕ) → is_letter b ≡ true → IsAscii (take (prefix_len is_word bs + 1) (b ∷ bs))
front_word_ascii b bs h = rw (add-one (prefix_len is_word bs)) (IsAscii-cons b (take (prefix_len is_word bs) bs) (letter_below b h) (words_ascii bs))

-- where each part between cuts is ASCII and so is each cut, so is the whole
split_ascii : (cut : ℕ → Bool) → ((b : ℕ) → cut b ≡ true → b < 128) → (bs : List ℕ) → list_all is_ascii (slice_split cut bs) ≡ true → is_ascii bs ≡ true
split_ascii cut cuts [] h = refl
split_ascii cut cuts (b ∷ bs) h = by_test (cut b) refl h (split_ascii cut cuts bs)
  where
    by_parts : (parts : List (List ℕ)) → (list_all is_ascii parts ≡ true → is_ascii bs ≡ true) → list_all is_ascii (onto_first b parts) ≡ true → is_ascii (b ∷ bs) ≡ true
    by_parts [] rest h = and_from (nat_lt b 128) (is_ascii bs) (and_parts (nat_lt b 128) true (and_parts (nat_lt b 128 && true) true h).0).0 (rest refl)
    by_parts (part ∷ parts) rest h =
        let first : (nat_lt b 128 && is_ascii part) ≡ true = (and_parts (nat_lt b 128 && is_ascii part) (list_all is_ascii parts) h).0 in
        and_from (nat_lt b 128) (is_ascii bs) (and_parts (nat_lt b 128) (is_ascii part) first).0 (rest (and_from (is_ascii part) (list_all is_ascii parts) (and_parts (nat_lt b 128) (is_ascii part) first).1 (and_parts (nat_lt b 128 && is_ascii part) (list_all is_ascii parts) h).1))

    by_test : (c : Bool) → cut b ≡ c → list_all is_ascii (cond c ([] ∷ slice_split cut bs) (onto_first b (slice_split cut bs))) ≡ true
        → (list_all is_ascii (slice_split cut bs) ≡ true → is_ascii bs ≡ true) → is_ascii (b ∷ bs) ≡ true
    by_test true e h rest = and_from (nat_lt b 128) (is_ascii bs) (passes_test b (cuts b e)) (rest h)
    by_test false e h rest = by_parts (slice_split cut bs) rest h

-- what a test shows of each part
weaker : (p q : List ℕ → Bool) → ((bs : List ℕ) → p bs ≡ true → q bs ≡ true) → (parts : List (List ℕ)) → list_all p parts ≡ true → list_all q parts ≡ true
weaker p q shows [] h = refl
weaker p q shows (part ∷ parts) h = and_from (q part) (list_all q parts) (shows part (and_parts (p part) (list_all p parts) h).0) (weaker p q shows parts (and_parts (p part) (list_all p parts) h).1)

colon_below : (b : ℕ) → is_colon b ≡ true → b < 128
colon_below b h = grind (arith, nat_tests)

slash_below : (b : ℕ) → is_slash b ≡ true → b < 128
slash_below b h = grind (arith, nat_tests)

joined_ascii : (text : List ℕ) → is_joined text ≡ true → IsAscii text
joined_ascii text h = tested text (split_ascii is_colon colon_below text (weaker is_plain_word is_ascii plain (slice_split is_colon text) h))
  where
    plain : (bs : List ℕ) → is_plain_word bs ≡ true → is_ascii bs ≡ true
    plain bs h = identifier_test bs (and_parts (is_identifier bs) (not (is_non_finite_word bs)) h).0

pub prim_path_ascii : (text : List ℕ) → is_prim_path text ≡ true → IsAscii text
prim_path_ascii [] h = IsAscii-nil
prim_path_ascii (b ∷ bs) h =
    IsAscii-cons b bs (slash_below b (and_parts (is_slash b) (are_identifiers bs) h).0)
    (tested bs (split_ascii is_slash slash_below bs (weaker is_identifier is_ascii identifier_test (slice_split is_slash bs) (and_parts (is_slash b) (are_identifiers bs) h).1)))

-- one of some words of ASCII
equal_ascii : (text word : List ℕ) → is_ascii word ≡ true → bytes_eq text word ≡ true → IsAscii text
equal_ascii text word ascii h = subst IsAscii (sym ((bytes_eq-Decides text word).0 h)) (tested word ascii)

any_ascii : (words : List (List ℕ)) (text : List ℕ) → list_all is_ascii words ≡ true → is_any words text ≡ true → IsAscii text
any_ascii [] text ascii h = absurd (cc)
any_ascii (word ∷ words) text ascii h = by_test (bytes_eq text word) refl h (any_ascii words text (and_parts (is_ascii word) (list_all is_ascii words) ascii).1)
  where
    by_test : (e : Bool) → bytes_eq text word ≡ e → (e || is_any words text) ≡ true → (is_any words text ≡ true → IsAscii text) → IsAscii text
    by_test true same h rest = equal_ascii text word (and_parts (is_ascii word) (list_all is_ascii words) ascii).0 same
    by_test false same h rest = rest h

pub visibility_ascii : (text : List ℕ) → is_any visibilities text ≡ true → IsAscii text
visibility_ascii text h = any_ascii visibilities text refl h

pub purpose_ascii : (text : List ℕ) → is_any purposes text ≡ true → IsAscii text
purpose_ascii text h = any_ascii purposes text refl h

op_ascii : (text : List ℕ) → is_used (op_kind_of text) ≡ true → IsAscii text
unfolding op_kind_of
op_ascii text h = joined_ascii text (used (starts_with nat_eq text (codes "xformOp:")) (is_joined text) (op_value_kind (first_part (drop 8 text))) h)
  where
    used : (a b : Bool) (role : _) → is_used (if a && b then role else None) ≡ true → b ≡ true
    used true true role h = refl
    used true false role h = absurd (cc)
    used false b role h = absurd (cc)

pub op_entry_ascii : (first : Bool) (text : List ℕ) → is_op_entry first text ≡ true → IsAscii text
op_entry_ascii first text h = by_test (first && bytes_eq text (codes "!resetXformStack!")) refl h
  where
    by_test : (reset : Bool) → (first && bytes_eq text (codes "!resetXformStack!")) ≡ reset → (reset || is_used (op_kind_of text)) ≡ true → IsAscii text
    by_test true is h = equal_ascii text (codes "!resetXformStack!") refl (and_parts first (bytes_eq text (codes "!resetXformStack!")) is).1
    by_test false is h = op_ascii text h
