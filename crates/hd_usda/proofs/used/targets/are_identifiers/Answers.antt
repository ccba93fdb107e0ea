use Rattle.std.proofs.Common.{◌≡◌, ◌∙◌, sym, ap, length, take, true, false, arith}
use Rattle.hd_path.specs.Names.{is_identifier}
use Rattle.hd_path.specs.Parsing.{is_slash}
use Rattle.hd_usda.specs.used.Targets.{are_identifiers}
use Rattle.hd_tokens.proofs.Splitting.{after_first, all_fails, all_ends, all_goes_on}
use Rattle.hd_usda.proofs.used.targets.are_identifiers.Goals as goal

pub returns-then-not-is_identifier : goal.returns-then-not-is_identifier
returns-then-not-is_identifier c =
    let n = c.name_len.result in
    let rest = c.parts.rest.now in
    let test : is_identifier (take n rest) ≡ false = ap is_identifier (sym c.split_at.ensures.front) ∙ sym c.is_identifier.ensures ∙ c.if-not-is_identifier.true in
    sym (all_fails is_slash is_identifier n rest c.name_len.ensures.count test) ∙ c.parts.invariant

pub returns-in-empty : goal.returns-in-empty
returns-in-empty c =
    let n = c.name_len.result in
    let rest = c.parts.rest.now in
    let size = ap length c.split_at.ensures.back in
    let test : is_identifier (take n rest) ≡ true = ap is_identifier (sym c.split_at.ensures.front) ∙ sym c.is_identifier.ensures ∙ c.if-not-is_identifier.false in
    sym (all_ends is_slash is_identifier n rest c.name_len.ensures.count test (omega (arith, size, c.in-empty.len_below))) ∙ c.parts.invariant

pub parts-preserved : goal.parts-preserved
parts-preserved c =
    let n = c.name_len.result in
    let rest = c.parts.rest.now in
    let size = ap length c.split_at.ensures.back in
    let test : is_identifier (take n rest) ≡ true = ap is_identifier (sym c.split_at.ensures.front) ∙ sym c.is_identifier.ensures ∙ c.if-not-is_identifier.false in
    ap are_identifiers (after_first n rest c.split_at.result.1.now c.split_at.ensures.back) ∙ sym (all_goes_on is_slash is_identifier n rest c.name_len.ensures.count test (omega (arith, size, c.in-len1-up.len_at_least))) ∙ c.parts.invariant
