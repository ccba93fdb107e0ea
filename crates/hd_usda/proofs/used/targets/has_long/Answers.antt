use Rattle.std.proofs.Common.{◌≡◌, ◌∙◌, sym, ap, length, take, true, false, arith}
use Rattle.hd_path.specs.Parsing.{is_slash}
use Rattle.hd_usda.specs.used.Targets.{has_long}
use Rattle.hd_usda.specs.reading.Words.{is_long}
use Rattle.hd_tokens.proofs.Splitting.{after_first, any_passes, any_ends, any_goes_on}
use Rattle.hd_usda.proofs.used.targets.has_long.Goals as goal

pub returns-then-is_long : goal.returns-then-is_long
returns-then-is_long c =
    let n = c.name_len.result in
    let rest = c.parts.rest.now in
    let test : is_long (take n rest) ≡ true = ap is_long (sym c.split_at.ensures.front) ∙ sym c.is_long.ensures ∙ c.if-is_long.true in
    sym (any_passes is_slash is_long n rest c.name_len.ensures.count test) ∙ c.parts.invariant

pub returns-in-empty : goal.returns-in-empty
returns-in-empty c =
    let n = c.name_len.result in
    let rest = c.parts.rest.now in
    let size = ap length c.split_at.ensures.back in
    let test : is_long (take n rest) ≡ false = ap is_long (sym c.split_at.ensures.front) ∙ sym c.is_long.ensures ∙ c.if-is_long.false in
    sym (any_ends is_slash is_long n rest c.name_len.ensures.count test (omega (arith, size, c.in-empty.len_below))) ∙ c.parts.invariant

pub parts-preserved : goal.parts-preserved
parts-preserved c =
    let n = c.name_len.result in
    let rest = c.parts.rest.now in
    let size = ap length c.split_at.ensures.back in
    let test : is_long (take n rest) ≡ false = ap is_long (sym c.split_at.ensures.front) ∙ sym c.is_long.ensures ∙ c.if-is_long.false in
    ap has_long (after_first n rest c.split_at.result.1.now c.split_at.ensures.back) ∙ sym (any_goes_on is_slash is_long n rest c.name_len.ensures.count test (omega (arith, size, c.in-len1-up.len_at_least))) ∙ c.parts.invariant
