-- What the reader holds of the first token.
use Rattle.std.proofs.Common.{◌≡◌, ℕ, ◌+◌, ◌<◌, List, [], ◌∷◌, true, false, length, take, drop, refl, sym, ap, ◌∙◌, arith}
use Rattle.hd_lexer.specs.declared.lexer.RawToken as coded
use Rattle.hd_lexer.specs.Lexing.{cut, line_over, tokens_from, Tokens, Token, RawToken, raw_token_at}
use Rattle.hd_lexer.specs.inner.Scanned.{IsFirst}
use Rattle.hd_usda.specs.reading.Cursor.{kind, text, line_of, rest, count, is, same_kind, first_kind, tail}
use Rattle.hd_lexer.specs.declared.lexer.Kind.{Kind}
use Rattle.hd_lexer.specs.declared.lexer.Kind.TheVariants.{End}
use Rattle.hd_lexer.proofs.Skipping.{token_passes}

pub kind_is : (line : ℕ) (bs : List ℕ) (p : coded.RawToken) → IsFirst bs p → p.kind ≡ kind (tokens_from line bs)
unfolding cut
kind_is line [] p h = ap (λ (q : RawToken). q.kind) h.is
kind_is line (b ∷ bs) p h = ap (λ (q : RawToken). q.kind) h.is ∙ sym (ap kind (token_passes line b bs h.no_blank))

pub text_is : (line : ℕ) (bs : List ℕ) (p : coded.RawToken) → IsFirst bs p → p.text.now ≡ text (tokens_from line bs)
unfolding cut
text_is line [] p h = ap (λ (q : RawToken). q.text) h.is
text_is line (b ∷ bs) p h = ap (λ (q : RawToken). q.text) h.is ∙ sym (ap text (token_passes line b bs h.no_blank))

pub line_is : (line : ℕ) (bs : List ℕ) (p : coded.RawToken) → IsFirst bs p → line ≡ line_of (tokens_from line bs)
unfolding cut
line_is line [] p h = refl
line_is line (b ∷ bs) p h = sym (ap line_of (token_passes line b bs h.no_blank))

-- after the first token are the others
pub rest_is : (line : ℕ) (bs : List ℕ) (p : coded.RawToken) → IsFirst bs p → 0 < length bs
    → tokens_from (line_over line (take (p.more + 1) bs)) (drop (p.more + 1) bs) ≡ rest (tokens_from line bs)
unfolding cut
rest_is line [] p h lt = absurd (omega arith)
rest_is line (b ∷ bs) p h lt =
    let e : p.more ≡ (raw_token_at b bs).more = ap (λ (q : RawToken). q.more) h.is in
    rw e (sym (ap rest (token_passes line b bs h.no_blank)))

-- at the end nothing is left
pub rest_ends : (line : ℕ) (bs : List ℕ) → length bs ≡ 0 → tokens_from line bs ≡ rest (tokens_from line bs)
unfolding cut
rest_ends line [] e = refl
rest_ends line (b ∷ bs) e = absurd (omega arith)

-- a token of a kind that is not the end is before other tokens
pub one_fewer : (k : Kind) (ts : Tokens) → same_kind End k ≡ false → is k ts ≡ true → count (rest ts) < count ts
unfolding is
one_fewer k ts other found = fewer k ts.list ts.end other found
  where
    fewer : (k : Kind) (list : List Token) (end : ℕ) → same_kind End k ≡ false → same_kind (first_kind list) k ≡ true → length (tail list) < length list
    fewer k [] end other found = absurd (cc)
    fewer k (t ∷ ts) end other found = omega arith
