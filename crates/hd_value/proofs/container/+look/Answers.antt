use Rattle.std.proofs.Common.{◌≡◌, Option, Some, None, ◌∷◌, length, map, sym, ap, ◌∙◌, rules}
use Rattle.std.proofs.lemmas.List.{length-map}
use Rattle.std.specs.Option.{option_copied}
use Rattle.hd_value.specs.inner.Entries.{source_at}
use Rattle.hd_value.proofs.Getting.{found_step, found_in, found_inside, found_further, no_items}
use Rattle.hd_value.proofs.container.+look.Goals as goal

pub returns-in_err-source : goal.returns-in_err-source
returns-in_err-source g t c =
    let bytes = g.T.LocatorText.bytes in
    let first = bytes c.in_ok-first.first.now in
    let rest = map bytes c.in_ok-first.rest.now in
    let split : c.args.tokens.now ≡ c.in_ok-first.first.now ∷ c.in_ok-first.rest.now = search rules in
    let step = found_step c.args.container.now (map bytes c.args.tokens.now) c.entries.result.now first rest c.entries.ensures.map c.entries.ensures.entries (ap (map bytes) split) in
    let miss : ◌≡◌ {A = Option _} None (source_at first c.entries.result.now) = c.in_err-source.ensures ∙ ap (λ token. source_at token c.entries.result.now) c.as_text.ensures in
    ap option_copied c.from_residual-in_err-source.ensures ∙ ap (λ o. found_in o rest) miss ∙ sym step

pub returns-then-is_empty : goal.returns-then-is_empty
returns-then-is_empty g t c =
    let bytes = g.T.LocatorText.bytes in
    let first = bytes c.in_ok-first.first.now in
    let rest = map bytes c.in_ok-first.rest.now in
    let split : c.args.tokens.now ≡ c.in_ok-first.first.now ∷ c.in_ok-first.rest.now = search rules in
    let step = found_step c.args.container.now (map bytes c.args.tokens.now) c.entries.result.now first rest c.entries.ensures.map c.entries.ensures.entries (ap (map bytes) split) in
    let hit : Some c.in_ok-source.source.now ≡ source_at first c.entries.result.now = c.in_ok-source.ensures ∙ ap (λ token. source_at token c.entries.result.now) c.as_text.ensures in
    let none : length c.in_ok-first.rest.now ≡ 0 = search rules in
    let last : length rest ≡ 0 = length-map c.in_ok-first.rest.now bytes ∙ none in
    ap (found_in (Some c.in_ok-source.source.now)) (sym (no_items rest last)) ∙ ap (λ o. found_in o rest) hit ∙ sym step

pub returns-in-Inner : goal.returns-in-Inner
returns-in-Inner g t c =
    let bytes = g.T.LocatorText.bytes in
    let first = bytes c.in_ok-first.first.now in
    let rest = map bytes c.in_ok-first.rest.now in
    let split : c.args.tokens.now ≡ c.in_ok-first.first.now ∷ c.in_ok-first.rest.now = search rules in
    let step = found_step c.args.container.now (map bytes c.args.tokens.now) c.entries.result.now first rest c.entries.ensures.map c.entries.ensures.entries (ap (map bytes) split) in
    let hit : Some c.in_ok-source.source.now ≡ source_at first c.entries.result.now = c.in_ok-source.ensures ∙ ap (λ token. source_at token c.entries.result.now) c.as_text.ensures in
    let some : length c.in_ok-first.rest.now ≡ 0 → ⊥ = search rules in
    let more : length rest ≡ 0 → ⊥ = λ none. some (sym (length-map c.in_ok-first.rest.now bytes) ∙ none) in
    c.look.ensures ∙ ap (λ s. found_inside s rest) (sym c.in-Inner.is) ∙ sym (found_further c.in_ok-source.source.now rest more) ∙ ap (λ o. found_in o rest) hit ∙ sym step

pub returns-in-Leaf : goal.returns-in-Leaf
returns-in-Leaf g t c =
    let bytes = g.T.LocatorText.bytes in
    let first = bytes c.in_ok-first.first.now in
    let rest = map bytes c.in_ok-first.rest.now in
    let split : c.args.tokens.now ≡ c.in_ok-first.first.now ∷ c.in_ok-first.rest.now = search rules in
    let step = found_step c.args.container.now (map bytes c.args.tokens.now) c.entries.result.now first rest c.entries.ensures.map c.entries.ensures.entries (ap (map bytes) split) in
    let hit : Some c.in_ok-source.source.now ≡ source_at first c.entries.result.now = c.in_ok-source.ensures ∙ ap (λ token. source_at token c.entries.result.now) c.as_text.ensures in
    let some : length c.in_ok-first.rest.now ≡ 0 → ⊥ = search rules in
    let more : length rest ≡ 0 → ⊥ = λ none. some (sym (length-map c.in_ok-first.rest.now bytes) ∙ none) in
    ap (λ s. found_inside s rest) (sym c.in-Leaf.is) ∙ sym (found_further c.in_ok-source.source.now rest more) ∙ ap (λ o. found_in o rest) hit ∙ sym step
