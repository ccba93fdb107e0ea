use Rattle.std.proofs.Common.{◌≡◌, ◌<◌, ◌∙◌, ◌∷◌, length, sym, ap, arith}
use Rattle.std.proofs.lemmas.Grind.{common_steps}
use Rattle.hd_script.specs.Lines.{Word, words, word_at}
use Rattle.hd_script.proofs.Cutting.{next_word, no_word}
use Rattle.hd_script.proofs.words.Words.next.Goals as goal

pub returns-then-is_empty-clause-none : goal.returns-then-is_empty-clause-none
returns-then-is_empty-clause-none c =
    let none : length c.from_word-rest.result.now ≡ 0 = grind (arith, common_steps) in
    sym c.self.view_is ∙ no_word c.self.inside.rest.now (ap length (sym c.from_word-rest.ensures) ∙ none)

pub returns-clause-some : goal.returns-clause-some
returns-clause-some c =
    let some : 0 < length c.from_word-rest.result.now = grind (arith, common_steps) in
    let line = c.self.inside.rest.now in
    let word = c.word_at-word.ensures ∙ ap word_at c.from_word-rest.ensures in
    sym c.self.view_is ∙ next_word line (omega (arith, some, ap length c.from_word-rest.ensures)) ∙ sym (ap (λ (w : Word). w ∷ words w.after) word)
