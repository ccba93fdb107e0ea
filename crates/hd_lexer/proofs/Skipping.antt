-- Passing over bytes that belong to one piece.
use Rattle.std.proofs.Common.{◌≡◌, ℕ, zero, suc, ◌+◌, ◌<◌, ◌-◌, take_all, length-drop, get_or, List, [], ◌∷◌, true, false, length, take, drop, refl, sym, ap, ◌∙◌, arith, add-one}
use Rattle.hd_lexer.specs.Lexing.{cut, line_after, line_over, tokens_from, Tokens, Token, blank_more, is_blank, raw_token_at, at_line}

abbrev pub record_of : List Token → ℕ → Tokens
record_of ts n = record { list = ts; end = n }

abbrev pub with_first : Token → Tokens → Tokens
with_first t ts = record { list = t ∷ ts.list; end = ts.end }

-- what is skipped is passed over
pub cut_skip : (skip line : ℕ) (bs : List ℕ) → cut skip line bs ≡ cut 0 (line_over line (take skip bs)) (drop skip bs)
unfolding cut
cut_skip zero line bs = refl
cut_skip (suc k) line [] = refl
cut_skip (suc k) line (b ∷ bs) = cut_skip k (line_after line b) bs

pub over_skip : (skip line : ℕ) (bs : List ℕ) → line_over (line_over line (take skip bs)) (drop skip bs) ≡ line_over line bs
over_skip zero line bs = refl
over_skip (suc k) line [] = refl
over_skip (suc k) line (b ∷ bs) = over_skip k (line_after line b) bs

same_tokens : {ss ts : List Token} {m n : ℕ} → ss ≡ ts → m ≡ n → record_of ss m ≡ record_of ts n
same_tokens p q = cc

-- a blank passes with what belongs to it
pub blank_passes : (line b : ℕ) (bs : List ℕ) (more : ℕ) → is_blank b ≡ true → blank_more b bs ≡ more
    → tokens_from (line_over line (take (more + 1) (b ∷ bs))) (drop (more + 1) (b ∷ bs)) ≡ tokens_from line (b ∷ bs)
unfolding cut
blank_passes line b bs more blank is =
    let whole : cut 0 line (b ∷ bs) ≡ cut more (line_after line b) bs = rw (blank, is) refl in
    let list : cut 0 (line_over (line_after line b) (take more bs)) (drop more bs) ≡ cut 0 line (b ∷ bs) = sym (cut_skip more (line_after line b) bs) ∙ sym whole in
    rw (add-one more) (same_tokens list (over_skip more (line_after line b) bs))

-- a token passes, and is the first of the list
pub token_passes : (line b : ℕ) (bs : List ℕ) → is_blank b ≡ false
    → tokens_from line (b ∷ bs) ≡ with_first (at_line line (raw_token_at b bs)) (tokens_from (line_over line (take ((raw_token_at b bs).more + 1) (b ∷ bs))) (drop ((raw_token_at b bs).more + 1) (b ∷ bs)))
unfolding cut
token_passes line b bs blank =
    let more = (raw_token_at b bs).more in
    let whole : cut 0 line (b ∷ bs) ≡ at_line line (raw_token_at b bs) ∷ cut more (line_after line b) bs = rw blank refl in
    let list : cut 0 line (b ∷ bs) ≡ at_line line (raw_token_at b bs) ∷ cut 0 (line_over (line_after line b) (take more bs)) (drop more bs) = whole ∙ ap (λ (ts : List Token). at_line line (raw_token_at b bs) ∷ ts) (cut_skip more (line_after line b) bs) in
    rw (add-one more) (same_tokens list (sym (over_skip more (line_after line b) bs)))

-- what a pattern binds after the first byte
pub after : (bs : List ℕ) → take (length bs - 1) (drop 1 bs) ≡ drop 1 bs
after bs = take_all (length bs - 1) (drop 1 bs) (omega (arith, length-drop 1 bs))

pub blanks_pass : (line : ℕ) (bs : List ℕ) (more : ℕ) → 0 < length bs → is_blank (get_or bs 0 0) ≡ true → more ≡ blank_more (get_or bs 0 0) (take (length bs - 1) (drop 1 bs))
    → tokens_from (line_over line (take (more + 1) bs)) (drop (more + 1) bs) ≡ tokens_from line bs
blanks_pass line [] more lt blank is = absurd (omega arith)
blanks_pass line (b ∷ bs) more lt blank is = blank_passes line b bs more blank (sym (is ∙ ap (blank_more b) (after (b ∷ bs))))
