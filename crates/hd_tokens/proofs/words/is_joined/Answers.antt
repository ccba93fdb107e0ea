use Rattle.std.proofs.Common.{◌≡◌, ◌∙◌, sym, ap, length, take, true, false, arith}
use Rattle.hd_tokens.specs.Names.{is_plain_word, is_colon, is_joined}
use Rattle.hd_tokens.proofs.Splitting.{after_first, all_fails, all_ends, all_goes_on}
use Rattle.hd_tokens.proofs.words.is_joined.Goals as goal

pub returns-then-not-is_plain_word : goal.returns-then-not-is_plain_word
returns-then-not-is_plain_word c =
    let n = c.part_len.result in
    let rest = c.parts.rest.now in
    let test : is_plain_word (take n rest) ≡ false = ap is_plain_word (sym c.split_at.ensures.front) ∙ sym c.is_plain_word.ensures ∙ c.if-not-is_plain_word.true in
    sym (all_fails is_colon is_plain_word n rest c.part_len.ensures.count test) ∙ c.parts.invariant

pub returns-in-empty : goal.returns-in-empty
returns-in-empty c =
    let n = c.part_len.result in
    let rest = c.parts.rest.now in
    let size = ap length c.split_at.ensures.back in
    let test : is_plain_word (take n rest) ≡ true = ap is_plain_word (sym c.split_at.ensures.front) ∙ sym c.is_plain_word.ensures ∙ c.if-not-is_plain_word.false in
    sym (all_ends is_colon is_plain_word n rest c.part_len.ensures.count test (omega (arith, size, c.in-empty.len_below))) ∙ c.parts.invariant

pub parts-preserved : goal.parts-preserved
parts-preserved c =
    let n = c.part_len.result in
    let rest = c.parts.rest.now in
    let size = ap length c.split_at.ensures.back in
    let test : is_plain_word (take n rest) ≡ true = ap is_plain_word (sym c.split_at.ensures.front) ∙ sym c.is_plain_word.ensures ∙ c.if-not-is_plain_word.false in
    ap is_joined (after_first n rest c.split_at.result.1.now c.split_at.ensures.back) ∙ sym (all_goes_on is_colon is_plain_word n rest c.part_len.ensures.count test (omega (arith, size, c.in-len1-up.len_at_least))) ∙ c.parts.invariant
