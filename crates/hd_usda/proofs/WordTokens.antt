-- Each word among the tokens of a text is an identifier.
use Rattle.std.proofs.Common.{◌≡◌, ℕ, zero, suc, ◌+◌, Bool, true, false, ◌||◌, not, ◌==◌, nat_eq, if◌then◌else◌, List, [], ◌∷◌, take, drop, Option, Some, None, refl, add-one, one-add, codes}
use Rattle.std.proofs.lemmas.Bool.{and_from, and_parts}
use Rattle.std.specs.List.{list_all, prefix_len, starts_with}
use Rattle.hd_path.specs.Names.{is_letter, is_word, is_identifier}
use Rattle.hd_lexer.specs.declared.lexer.Kind.{Kind}
use Rattle.hd_lexer.specs.declared.lexer.Kind.TheVariants.{Word, Number, Text, Asset, PathText, OpenRound, CloseRound, OpenSquare, CloseSquare, OpenCurly, CloseCurly, Equals, Comma, Colon, Semicolon, Point, Bad}
use Rattle.hd_lexer.specs.Lexing.{is_sign, is_blank, mark_of, RawToken, token_of, no_token, word_kind, word_token, number_len, number_token, signed_token, on_line, inside_len, short_token, long_token, quoted_token, raw_token_at, line_after, blank_more, Token, at_line, cut, Tokens, tokens_from, between_three}
use Rattle.hd_usda.specs.reading.Cursor.{same_kind, first_kind, first_text, is, rest, tail, text}

-- a token of this kind and text is no word, or an identifier
abbrev is_worded : Kind → List ℕ → Bool
is_worded kind text = not (same_kind kind Word) || is_identifier text

abbrev are_worded : List Token → Bool
are_worded ts = list_all (λ t. is_worded t.kind t.text) ts

-- each word among the tokens is an identifier
abbrev pub Worded : Tokens → Type 0
Worded ts = are_worded ts.list ≡ true

pub worded_goes_on : (ts : Tokens) → Worded ts → Worded (rest ts)
worded_goes_on ts h = after ts.list h
  where
    after : (list : List Token) → are_worded list ≡ true → are_worded (tail list) ≡ true
    after [] h = refl
    after (t ∷ list) h = (and_parts (is_worded t.kind t.text) (are_worded list) h).1

pub word_is_identifier : (ts : Tokens) → Worded ts → is Word ts ≡ true → is_identifier (text ts) ≡ true
unfolding is
word_is_identifier ts h word = first ts.list h word
  where
    identifier : (word : Bool) (text : List ℕ) → (not word || is_identifier text) ≡ true → word ≡ true → is_identifier text ≡ true
    identifier true text h e = h
    identifier false text h e = absurd (cc)

    first : (list : List Token) → are_worded list ≡ true → same_kind (first_kind list) Word ≡ true → is_identifier (first_text list) ≡ true
    first [] h word = absurd (cc)
    first (t ∷ list) h word = identifier (same_kind t.kind Word) t.text (and_parts (is_worded t.kind t.text) (are_worded list) h).0 word

abbrev is_worded_piece : RawToken → Bool
is_worded_piece p = is_worded p.kind p.text

front_passes : (test : ℕ → Bool) (bs : List ℕ) → list_all test (take (prefix_len test bs) bs) ≡ true
front_passes test [] = refl
front_passes test (b ∷ bs) = by_test (test b) refl (front_passes test bs)
  where
    by_test : (t : Bool) → test b ≡ t → list_all test (take (prefix_len test bs) bs) ≡ true → list_all test (take (prefix_len test (b ∷ bs)) (b ∷ bs)) ≡ true
    by_test true e more = rw (e, one-add (prefix_len test bs)) (and_from (test b) (list_all test (take (prefix_len test bs) bs)) e more)
    by_test false e more = rw e refl

word_worded : (b : ℕ) (bs : List ℕ) → is_letter b ≡ true → is_worded_piece (word_token (b ∷ bs) (prefix_len is_word bs)) ≡ true
word_worded b bs letter = either_way (not (same_kind (word_kind (take (n + 1) (b ∷ bs))) Word)) (is_identifier (take (n + 1) (b ∷ bs))) identifier
  where
    n : ℕ
    n = prefix_len is_word bs

    identifier : is_identifier (take (prefix_len is_word bs + 1) (b ∷ bs)) ≡ true
    identifier = rw (add-one (prefix_len is_word bs)) (and_from (is_letter b) (list_all is_word (take (prefix_len is_word bs) bs)) letter (front_passes is_word bs))

    either_way : (a b : Bool) → b ≡ true → (a || b) ≡ true
    either_way true b e = refl
    either_way false b e = e

worded_if : (c : Bool) (p q : RawToken) → (c ≡ true → is_worded_piece p ≡ true) → is_worded_piece q ≡ true → is_worded_piece (if c then p else q) ≡ true
worded_if true p q a b = a refl
worded_if false p q a b = b

signed_worded : (bs : List ℕ) → is_worded_piece (signed_token bs) ≡ true
signed_worded bs = worded_if (not (number_len (drop 1 bs) == 0)) (token_of Number bs (number_len (drop 1 bs))) _ (λ _. refl)
    (worded_if (starts_with nat_eq bs (codes "-inf")) (token_of Number bs 3) no_token (λ _. refl) refl)

no_word : (kind : Kind) (text : List ℕ) → same_kind kind Word ≡ false → is_worded kind text ≡ true
no_word kind text other = rw other refl

short_worded : (kind : Kind) (bs : List ℕ) (o : Option ℕ) → same_kind kind Word ≡ false → is_worded_piece (short_token kind bs o) ≡ true
short_worded kind bs None other = refl
short_worded kind bs (Some n) other = no_word kind (take n bs) other

long_worded : (kind : Kind) (bs : List ℕ) (short : RawToken) (o : Option ℕ) → same_kind kind Word ≡ false → is_worded_piece short ≡ true → is_worded_piece (long_token kind bs short o) ≡ true
long_worded kind bs short None other h = h
long_worded kind bs short (Some n) other h = no_word kind (take n (drop 2 bs)) other

quoted_worded : (kind : Kind) (mark : ℕ) (escapes : Bool) (bs : List ℕ) → same_kind kind Word ≡ false → is_worded_piece (quoted_token kind mark escapes bs) ≡ true
quoted_worded kind mark escapes bs other =
    let short = short_worded kind bs (inside_len (on_line mark escapes) bs) other in
    worded_if (starts_with nat_eq bs (mark ∷ mark ∷ [])) (long_token kind bs (short_token kind bs (inside_len (on_line mark escapes) bs)) (inside_len (between_three mark escapes) (drop 2 bs))) (short_token kind bs (inside_len (on_line mark escapes) bs))
    (λ _. long_worded kind bs (short_token kind bs (inside_len (on_line mark escapes) bs)) (inside_len (between_three mark escapes) (drop 2 bs)) other short) short

no_word_if : (c : Bool) (k l : Kind) → same_kind k Word ≡ false → same_kind l Word ≡ false → same_kind (if c then k else l) Word ≡ false
no_word_if true k l a b = a
no_word_if false k l a b = b

mark_is_no_word : (b : ℕ) → same_kind (mark_of b) Word ≡ false
mark_is_no_word b =
    no_word_if (b == 40) OpenRound _ refl
    (no_word_if (b == 41) CloseRound _ refl
    (no_word_if (b == 91) OpenSquare _ refl
    (no_word_if (b == 93) CloseSquare _ refl
    (no_word_if (b == 123) OpenCurly _ refl
    (no_word_if (b == 125) CloseCurly _ refl
    (no_word_if (b == 61) Equals _ refl
    (no_word_if (b == 44) Comma _ refl
    (no_word_if (b == 58) Colon _ refl
    (no_word_if (b == 59) Semicolon _ refl
    (no_word_if (b == 46) Point Bad refl refl))))))))))

piece_worded : (b : ℕ) (bs : List ℕ) → is_worded_piece (raw_token_at b bs) ≡ true
unfolding raw_token_at
piece_worded b bs =
    worded_if (is_letter b) (word_token (b ∷ bs) (prefix_len is_word bs)) _ (word_worded b bs)
    (worded_if (not (number_len (b ∷ bs) == 0)) (number_token (b ∷ bs) (number_len (b ∷ bs))) _ (λ _. refl)
    (worded_if (is_sign b) (signed_token (b ∷ bs)) _ (λ _. signed_worded (b ∷ bs))
    (worded_if ((b == 34) || (b == 39)) (quoted_token Text b true bs) _ (λ _. quoted_worded Text b true bs refl)
    (worded_if (b == 64) (quoted_token Asset b false bs) _ (λ _. quoted_worded Asset b false bs refl)
    (worded_if (b == 60) (short_token PathText bs (inside_len (on_line 62 false) bs)) _ (λ _. short_worded PathText bs (inside_len (on_line 62 false) bs) refl)
    (no_word (mark_of b) (take (0 + 1) (b ∷ bs)) (mark_is_no_word b)))))))

cut_worded : (skip line : ℕ) (bs : List ℕ) → are_worded (cut skip line bs) ≡ true
unfolding cut
cut_worded skip line [] = refl
cut_worded (suc skip) line (b ∷ bs) = cut_worded skip (line_after line b) bs
cut_worded zero line (b ∷ bs) = by_blank (is_blank b) (cut (blank_more b bs) (line_after line b) bs) (at_line line (raw_token_at b bs) ∷ cut (raw_token_at b bs).more (line_after line b) bs)
    (cut_worded (blank_more b bs) (line_after line b) bs)
    (and_from (is_worded_piece (raw_token_at b bs)) (are_worded (cut (raw_token_at b bs).more (line_after line b) bs)) (piece_worded b bs) (cut_worded (raw_token_at b bs).more (line_after line b) bs))
  where
    by_blank : (c : Bool) (ts us : List Token) → are_worded ts ≡ true → are_worded us ≡ true → are_worded (if c then ts else us) ≡ true
    by_blank true ts us a b = a
    by_blank false ts us a b = b

-- each word among the tokens of a text is an identifier
pub tokens_worded : (line : ℕ) (bytes : List ℕ) → Worded (tokens_from line bytes)
tokens_worded line bytes = cut_worded 0 line bytes
