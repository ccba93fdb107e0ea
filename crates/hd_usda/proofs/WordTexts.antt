-- A token that is a word has a text of ASCII.
use Rattle.std.proofs.Common.{◌≡◌, ℕ, List, [], ◌∷◌, Bool, true, false, ◌||◌, not, ◌==◌, Option, Some, None, IsAscii, codes, nat_eq, drop, if◌then◌else◌, refl, sym, ap, subst, ◌∙◌}
use Rattle.std.specs.List.{starts_with}
use Rattle.hd_lexer.specs.declared.lexer.Kind.{Kind}
use Rattle.hd_lexer.specs.declared.lexer.Kind.TheVariants.{Word, Number, Text, Asset, PathText, OpenRound, CloseRound, OpenSquare, CloseSquare, OpenCurly, CloseCurly, Equals, Comma, Colon, Semicolon, Point, Bad}
use Rattle.hd_lexer.specs.declared.lexer.RawToken as coded
use Rattle.hd_path.specs.Names.{is_letter}
use Rattle.hd_lexer.specs.Lexing.{is_sign, mark_of, RawToken, token_of, no_token, number_len, number_token, signed_token, inside_len, on_line, between_three, short_token, long_token, quoted_token, raw_token_at, tokens_from}
use Rattle.hd_usda.specs.reading.Cursor.{kind, is, same_kind}
use Rattle.hd_lexer.specs.inner.Scanned.{IsFirst, front}
use Rattle.hd_usda.proofs.Heading.{kind_is}
use Rattle.hd_usda.proofs.Ascii.{front_word_ascii}

-- a piece that is a word only where its text is ASCII
abbrev IsWordOfAscii : RawToken → Type 0
IsWordOfAscii p = same_kind p.kind Word ≡ true → IsAscii p.text

no_word : (p : RawToken) → same_kind p.kind Word ≡ false → IsWordOfAscii p
no_word p other is = absurd (cc)

chosen : (b : Bool) (p q : RawToken) → (b ≡ true → IsWordOfAscii p) → (b ≡ false → IsWordOfAscii q) → IsWordOfAscii (if b then p else q)
chosen true p q h k = h refl
chosen false p q h k = k refl

short_no_word : (k : Kind) (bs : List ℕ) (n : Option ℕ) → same_kind k Word ≡ false → IsWordOfAscii (short_token k bs n)
short_no_word k bs None other = no_word no_token refl
short_no_word k bs (Some n) other = no_word (short_token k bs (Some n)) other

long_no_word : (k : Kind) (bs : List ℕ) (short : RawToken) (n : Option ℕ) → same_kind k Word ≡ false → IsWordOfAscii short → IsWordOfAscii (long_token k bs short n)
long_no_word k bs short None other h = h
long_no_word k bs short (Some n) other h = no_word (long_token k bs short (Some n)) other

quoted_no_word : (k : Kind) (mark : ℕ) (escapes : Bool) (bs : List ℕ) → same_kind k Word ≡ false → IsWordOfAscii (quoted_token k mark escapes bs)
quoted_no_word k mark escapes bs other =
    let short : IsWordOfAscii (short_token k bs (inside_len (on_line mark escapes) bs)) = short_no_word k bs (inside_len (on_line mark escapes) bs) other in
    chosen (starts_with nat_eq bs (mark ∷ mark ∷ [])) _ _ (λ _. long_no_word k bs _ (inside_len (between_three mark escapes) (drop 2 bs)) other short) (λ _. short)

either_kind : (b : Bool) (k l : Kind) → same_kind k Word ≡ false → same_kind l Word ≡ false → same_kind (if b then k else l) Word ≡ false
either_kind true k l h other = h
either_kind false k l h other = other

mark_no_word : (b : ℕ) → same_kind (mark_of b) Word ≡ false
mark_no_word b =
    either_kind (b == 40) OpenRound _ refl (
    either_kind (b == 41) CloseRound _ refl (
    either_kind (b == 91) OpenSquare _ refl (
    either_kind (b == 93) CloseSquare _ refl (
    either_kind (b == 123) OpenCurly _ refl (
    either_kind (b == 125) CloseCurly _ refl (
    either_kind (b == 61) Equals _ refl (
    either_kind (b == 44) Comma _ refl (
    either_kind (b == 58) Colon _ refl (
    either_kind (b == 59) Semicolon _ refl (
    either_kind (b == 46) Point Bad refl refl))))))))))

signed_no_word : (bs : List ℕ) → IsWordOfAscii (signed_token bs)
signed_no_word bs =
    chosen (not (number_len (drop 1 bs) == 0)) _ _ (λ _. no_word (token_of Number bs (number_len (drop 1 bs))) refl) (λ _.
    chosen (starts_with nat_eq bs (codes "-inf")) _ _ (λ _. no_word (token_of Number bs 3) refl) (λ _. no_word no_token refl))

piece_ascii : (b : ℕ) (bs : List ℕ) → IsWordOfAscii (raw_token_at b bs)
unfolding raw_token_at
piece_ascii b bs =
    chosen (is_letter b) _ _ (λ letter _. front_word_ascii b bs letter) (λ _.
    chosen (not (number_len (b ∷ bs) == 0)) _ _ (λ _. no_word (number_token (b ∷ bs) (number_len (b ∷ bs))) refl) (λ _.
    chosen (is_sign b) _ _ (λ _. signed_no_word (b ∷ bs)) (λ _.
    chosen ((b == 34) || (b == 39)) _ _ (λ _. quoted_no_word Text b true bs refl) (λ _.
    chosen (b == 64) _ _ (λ _. quoted_no_word Asset b false bs refl) (λ _.
    chosen (b == 60) _ _ (λ _. short_no_word PathText bs (inside_len (on_line 62 false) bs) refl) (λ _.
    no_word (token_of (mark_of b) (b ∷ bs) 0) (mark_no_word b)))))))

front_ascii : (bs : List ℕ) → IsWordOfAscii (front bs)
front_ascii [] = no_word (front []) refl
front_ascii (b ∷ bs) = piece_ascii b bs

-- what the reader holds of the first token
pub word_is_ascii : (line : ℕ) (bs : List ℕ) (p : coded.RawToken) → IsFirst bs p → is Word (tokens_from line bs) ≡ true → IsAscii p.text.now
unfolding is
word_is_ascii line bs p h word =
    let same : p.kind ≡ kind (tokens_from line bs) = kind_is line bs p h in
    let held : same_kind p.kind Word ≡ true = ap (λ k. same_kind k Word) same ∙ word in
    let of_front : same_kind (front bs).kind Word ≡ true = ap (λ (q : RawToken). same_kind q.kind Word) (sym h.is) ∙ held in
    subst IsAscii (ap (λ (q : RawToken). q.text) (sym h.is)) (front_ascii bs of_front)
