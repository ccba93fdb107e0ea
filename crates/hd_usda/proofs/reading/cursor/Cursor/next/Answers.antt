use Rattle.std.proofs.Common.{◌∙◌, ap, sym, arith, ◌<◌, ◌≡◌, length, ◌+◌, drop, take}
use Rattle.std.proofs.lemmas.Grind.{common_steps}
use Rattle.hd_lexer.specs.Lexing.{tokens_from, line_over}
use Rattle.hd_usda.specs.reading.Cursor.{rest}
use Rattle.hd_usda.proofs.Heading.{rest_is, rest_ends}
use Rattle.hd_usda.proofs.reading.cursor.Cursor.next.Goals as goal

pub passed-line-requires : goal.passed-line-requires
passed-line-requires c = let r = c.self.inside in c.self.invariant.shorter (grind (arith, common_steps))

pub returns-then-not-is_empty : goal.returns-then-not-is_empty
returns-then-not-is_empty c =
    let r = c.self.inside in
    let some : 0 < length r.rest.now = grind (arith, common_steps) in
    let e : tokens_from c.passed-line.result.1 c.passed-line.result.0.now ≡ tokens_from (line_over r.line (take (r.first.more + 1) r.rest.now)) (drop (r.first.more + 1) r.rest.now) = rw (c.passed-line.ensures.rest, c.passed-line.ensures.line) in
    c.self-then-not-is_empty.view_is ∙ c.new.ensures ∙ e ∙ rest_is r.line r.rest.now r.first c.self.invariant some ∙ ap rest c.self.view_is

pub returns-else-not-is_empty : goal.returns-else-not-is_empty
returns-else-not-is_empty c =
    let r = c.self.inside in
    let none : length r.rest.now ≡ 0 = grind (arith, common_steps) in
    sym c.self.view_is ∙ rest_ends r.line r.rest.now none ∙ ap rest c.self.view_is
