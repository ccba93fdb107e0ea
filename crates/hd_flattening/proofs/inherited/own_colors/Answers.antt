use Rattle.std.proofs.Common.{◌≡◌, [], List, sym, ap, subst, ◌∙◌}
use Rattle.std.specs.Prelude.{IfOk}
use Rattle.std.specs.FinMap.{get}
use Rattle.hd_num.specs.declared.vector.Rgb.{Rgb}
use Rattle.hd_tokens.specs.Locators.{color8_at, display_color_at}
use Rattle.hd_flattening.specs.Values.{colors_of}
use Rattle.hd_flattening.specs.Flat.{or_if_empty}
use Rattle.hd_flattening.proofs.inherited.own_colors.Goals as goal

pub returns-then-is_empty : goal.returns-then-is_empty
returns-then-is_empty c =
    let prim = c.args.values.now in
    let empty : c.in_ok-colors.colors ≡ [] = c.is_empty.ensures.0 c.if-is_empty.true in
    let none : colors_of (get prim color8_at) ≡ [] = ap colors_of (sym c.value_at.ensures) ∙ sym c.in_ok-colors.ensures ∙ empty in
    let same = ap colors_of c.value_at-then-is_empty.ensures ∙ ap (λ (colors : List Rgb). or_if_empty colors (colors_of (get prim display_color_at))) (sym none) in
    subst (λ (others : List Rgb). IfOk c.colors_of-then-is_empty.result (λ colors. colors ≡ others)) same c.colors_of-then-is_empty.ensures
