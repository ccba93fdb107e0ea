use Rattle.std.proofs.Common.{◌≡◌, ◌++◌, true, cond, drop, codes, Some, None, List, ℕ, refl, sym, ap, ◌∙◌}
use Rattle.std.proofs.lemmas.Bool.Decides.{Decides-eqb}
use Rattle.std.proofs.lemmas.Slice.Eq.{starts_is}
use Rattle.std.specs.List.{starts_with}
use Rattle.std.specs.Option.{option_and_then}
use Rattle.std.specs.Prelude.{nat_eq}
use Rattle.std.specs.FinMap.{get}
use Rattle.hd_tokens.specs.Locators.{Locator}
use Rattle.hd_flattening.specs.Values.{named_op, op_of}
use Rattle.hd_flattening.proofs.local.listed_op.Goals as goal

pub returns-in-Some : goal.returns-in-Some
returns-in-Some c =
    let cut = c.in-Some.ensures.cases in
    let entry : List ℕ = c.args.entry.now in
    let prim = c.args.values.now in
    let after : c.in-Some.name.now ≡ drop 8 entry = cut.2 ∙ ap (λ n. drop n c.text.result.now) cut.1.0 ∙ ap (drop 8) c.text.ensures in
    let whole : entry ≡ codes "xformOp:" ++ drop 8 entry = sym c.text.ensures ∙ cut.1.1 ∙ ap (λ n. codes "xformOp:" ++ drop n c.text.result.now) cut.1.0 ∙ ap (λ (t : List ℕ). codes "xformOp:" ++ drop 8 t) c.text.ensures in
    let begins : starts_with nat_eq entry (codes "xformOp:") ≡ true = (starts_is Decides-eqb entry (codes "xformOp:") (starts_with nat_eq entry (codes "xformOp:")) refl).1 (drop 8 entry) whole in
    c.op_of.ensures
    ∙ ap op_of c.value_at.ensures
    ∙ ap (λ (at : Locator). op_of (get prim at)) c.xform_op.ensures
    ∙ ap (named_op prim) after
    ∙ ap (λ b. option_and_then (named_op prim) (cond b (Some (drop 8 entry)) None)) (sym begins)
