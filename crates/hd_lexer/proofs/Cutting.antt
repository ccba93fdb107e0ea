-- A text is its blanks and its tokens.
use Rattle.std.proofs.Common.{◌≡◌, ℕ, zero, suc, ◌≤◌, Bool, true, false, ◌||◌, ◌==◌, if◌then◌else◌, List, [], ◌∷◌, length, take, drop, length-drop, refl, sym, ap, subst, ◌∙◌, arith}
use Rattle.std.proofs.lemmas.Bool.{eqb-true}
use Rattle.std.proofs.lemmas.List.{take-append-drop}
use Rattle.std.specs.List.{prefix_len}
use Rattle.hd_lexer.specs.Lexing.{Token, cut, is_blank, is_comment, line_after, line_over, raw_token_at, at_line}
use Rattle.hd_lexer.specs.Laws.{comment_after, AreTokens}
use Rattle.hd_lexer.proofs.Runs.{one_more}
use Rattle.hd_lexer.proofs.Skipping.{cut_skip}
use Rattle.hd_lexer.proofs.Writing.{piece_writes}

-- one blank more before the tokens
blank_before : (commented : Bool) (line b : ℕ) (bs : List ℕ) (ts : List Token) → (commented || is_blank b) ≡ true → AreTokens (comment_after commented b) (line_after line b) bs ts → AreTokens commented line (b ∷ bs) ts
blank_before commented line b bs [] h k = rw h k
blank_before commented line b bs (t ∷ ts) h k = (
  record {
    blanks = b ∷ k.0.blanks;
    bytes = k.0.bytes;
    rest = k.0.rest;
    all = ap (λ (xs : List ℕ). b ∷ xs) k.0.all;
    are_blank = rw h k.0.are_blank;
    no_comment = k.0.no_comment;
    line_is = k.0.line_is;
    some = k.0.some;
    no_blank = k.0.no_blank;
    written = k.0.written;
  },
  k.1,
)

-- the tokens where a comment goes on, or does not
abbrev from : Bool → ℕ → List ℕ → List Token
from commented line bs = cut (if commented then prefix_len is_comment bs else 0) line bs

pub are_tokens : (n line : ℕ) (commented : Bool) (bs : List ℕ) → length bs ≤ n → AreTokens commented line bs (from commented line bs)
unfolding cut
are_tokens n line true [] fits = refl
are_tokens n line false [] fits = refl
are_tokens zero line commented (b ∷ bs) fits = absurd (omega arith)
are_tokens (suc n) line true (b ∷ bs) fits = by (b == 10) refl (are_tokens n (line_after line b) true bs (omega arith)) (are_tokens n (line_after line b) false bs (omega arith))
  where
    by : (t : Bool) → (b == 10) ≡ t → AreTokens true (line_after line b) bs (from true (line_after line b) bs) → AreTokens false (line_after line b) bs (from false (line_after line b) bs) → AreTokens true line (b ∷ bs) (from true line (b ∷ bs))
    by true e more less =
        let same : b ≡ 10 = eqb-true b 10 e in
        let same_cut : from true line (b ∷ bs) ≡ cut 0 (line_after line b) bs = rw same refl in
        let after : comment_after true b ≡ false = rw e refl in
        rw same_cut (blank_before true line b bs (cut 0 (line_after line b) bs) refl (subst (λ c. AreTokens c (line_after line b) bs (cut 0 (line_after line b) bs)) (sym after) less))
    by false e more less =
        let same_cut : from true line (b ∷ bs) ≡ from true (line_after line b) bs = rw (e, one_more (prefix_len is_comment bs), e) refl in
        let after : comment_after true b ≡ true = rw e refl in
        rw same_cut (blank_before true line b bs (from true (line_after line b) bs) refl (subst (λ c. AreTokens c (line_after line b) bs (from true (line_after line b) bs)) (sym after) more))
are_tokens (suc n) line false (b ∷ bs) fits =
    by (is_blank b) refl (b == 35) refl (are_tokens n (line_after line b) true bs (omega arith)) (are_tokens n (line_after line b) false bs (omega arith))
    (are_tokens n (line_over (line_after line b) (take (raw_token_at b bs).more bs)) false (drop (raw_token_at b bs).more bs) (omega (arith, length-drop (raw_token_at b bs).more bs)))
  where
    by : (t : Bool) → is_blank b ≡ t → (u : Bool) → (b == 35) ≡ u → AreTokens true (line_after line b) bs (from true (line_after line b) bs) → AreTokens false (line_after line b) bs (from false (line_after line b) bs)
        → AreTokens false (line_over (line_after line b) (take (raw_token_at b bs).more bs)) (drop (raw_token_at b bs).more bs) (from false (line_over (line_after line b) (take (raw_token_at b bs).more bs)) (drop (raw_token_at b bs).more bs)) → AreTokens false line (b ∷ bs) (cut 0 line (b ∷ bs))
    by true e true f commented plain next =
        let same : b ≡ 35 = eqb-true b 35 f in
        let whole : cut 0 line (b ∷ bs) ≡ from true (line_after line b) bs = rw same refl in
        let after : comment_after false b ≡ true = rw same refl in
        rw whole (blank_before false line b bs (from true (line_after line b) bs) e (subst (λ c. AreTokens c (line_after line b) bs (from true (line_after line b) bs)) (sym after) commented))
    by true e false f commented plain next =
        let whole : cut 0 line (b ∷ bs) ≡ from false (line_after line b) bs = rw (e, f) refl in
        let after : comment_after false b ≡ false = rw f refl in
        rw whole (blank_before false line b bs (from false (line_after line b) bs) e (subst (λ c. AreTokens c (line_after line b) bs (from false (line_after line b) bs)) (sym after) plain))
    by false e u f commented plain next =
        let p = raw_token_at b bs in
        let whole : cut 0 line (b ∷ bs) ≡ at_line line p ∷ cut 0 (line_over (line_after line b) (take p.more bs)) (drop p.more bs) =
        (let first : cut 0 line (b ∷ bs) ≡ at_line line p ∷ cut p.more (line_after line b) bs = rw e refl in first) ∙ ap (λ (ts : List Token). at_line line p ∷ ts) (cut_skip p.more (line_after line b) bs) in
        rw whole (
          record {
            blanks = [];
            bytes = b ∷ take p.more bs;
            rest = drop p.more bs;
            all = ap (λ (xs : List ℕ). b ∷ xs) (sym (take-append-drop p.more bs));
            are_blank = refl;
            no_comment = refl;
            line_is = refl;
            some = omega arith;
            no_blank = e;
            written = piece_writes b bs;
          },
          next,
        )
