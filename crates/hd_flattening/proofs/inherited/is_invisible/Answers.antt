use Rattle.std.proofs.Common.{◌≡◌, ℕ, List, false, codes, Option, Some, None, ap, ◌∙◌}
use Rattle.std.specs.FinMap.{get}
use Rattle.std.specs.Option.{option_map_or}
use Rattle.hd_path.specs.Names.{is_same}
use Rattle.hd_tokens.specs.Locators.{visibility_at}
use Rattle.hd_flattening.specs.Values.{token_of}
use Rattle.hd_flattening.proofs.inherited.is_invisible.Goals as goal

pub returns-in-Some : goal.returns-in-Some
returns-in-Some c =
    let named : Some c.in-Some.visibility.now ≡ token_of (get c.args.values.now visibility_at) = c.in-Some.ensures ∙ ap token_of c.value_at.ensures in
    c.eq.ensures ∙ ap (λ (word : List ℕ). is_same word (codes "invisible")) c.text.ensures ∙ ap (λ o. option_map_or (λ word. is_same word (codes "invisible")) o false) named

pub returns-in-None : goal.returns-in-None
returns-in-None c =
    let unnamed : ◌≡◌ {A = Option (List ℕ)} None (token_of (get c.args.values.now visibility_at)) = c.in-None.ensures ∙ ap token_of c.value_at.ensures in
    ap (λ o. option_map_or (λ word. is_same word (codes "invisible")) o false) unnamed
