use Rattle.std.proofs.Common.{◌≡◌, ℕ, List, ◌∷◌, Some, ap, ◌∙◌}
use Rattle.hd_num.specs.declared.vector.Rgb.{Rgb}
use Rattle.std.specs.Option.{option_and_then}
use Rattle.std.specs.Prelude.{codes, unwrap_or}
use Rattle.hd_value.specs.declared.value.Value.TheVariants.{Token, Colors, Flag}
use Rattle.hd_value.specs.Maps.{Map}
use Rattle.hd_tokens.specs.Locators.{matrix_at, visibility_at, purpose_at, binding_at, color_at}
use Rattle.hd_flattening.specs.Flat.{flat_matrix, flat_purpose, flat_binding, first_of}
use Rattle.hd_flattening.specs.Flattened.{matrix_value}
use Rattle.hd_flattening.specs.inner.FlatLocators.{with_all_passed, binding_value}
use Rattle.hd_flattening.proofs.Building.{built, empty_within, put_more}
use Rattle.hd_flattening.proofs.flat.flat_values.Goals as goal

pub put-requires-clause-within : goal.put-requires-clause-within
put-requires-clause-within c = empty_within c.new-flat.result c.new-flat.ensures

pub returns : goal.returns
returns c = λ (above : List Map) is.
    let prim : Map = c.args.values.now in
    let own = c.in_ok-own.ensures above is in
    let matrix : c.matrix_value-matrix.result ≡ matrix_value (flat_matrix (prim ∷ above)) = c.matrix_value-matrix.ensures ∙ ap (λ i. matrix_value i.matrix) own in
    let purpose : c.in_ok-purpose_or_default.field-0 ≡ flat_purpose (prim ∷ above) = c.in_ok-purpose_or_default.ensures ∙ ap (λ i. unwrap_or i.purpose (codes "default")) own in
    let binding : c.in_ok-binding.binding ≡ binding_value (flat_binding (prim ∷ above)) = c.in_ok-binding.ensures ∙ ap (λ i. binding_value (option_and_then first_of i.binding)) own in
    let placed = put_more matrix_at c.in_ok-put.ensures.ok c.new-flat.ensures (ap Some matrix) in
    let shown = put_more visibility_at c.in_ok-put-2.ensures.ok placed (ap (λ i. Some (Flag i.is_visible)) own) in
    let meant = put_more purpose_at c.in_ok-put-3.ensures.ok shown (ap (λ (t : List ℕ). Some (Token t)) purpose) in
    let bound = put_more binding_at c.in_ok-put-4.ensures.ok meant binding in
    let colored = put_more color_at c.in_ok-put-5.ensures.ok bound (ap (λ (cs : List Rgb). Some (Colors cs)) (c.in_ok-colors.ensures above is)) in
    c.in_ok-pass_all.ensures ∙ ap (with_all_passed prim) colored ∙ built prim above c.requires
