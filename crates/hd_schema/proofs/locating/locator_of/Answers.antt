use Rattle.std.proofs.Common.{◌≡◌, ◌++◌, not, drop, codes, Option, Some, IfOk, sym, ap, subst, ◌∙◌}
use Rattle.std.specs.Option.{is_some}
use Rattle.hd_tokens.specs.Locators.{Locator, op_at}
use Rattle.hd_tokens.specs.Properties.{content_of}
use Rattle.hd_schema.proofs.Places.{op_located, op_unused, plain_located}
use Rattle.hd_schema.proofs.locating.locator_of.Goals as goal

pub returns-then-is_none : goal.returns-then-is_none
returns-then-is_none c =
    let name = c.args.name.now in
    let same : c.content_of.result ≡ content_of name = c.content_of.ensures ∙ ap content_of c.as_bytes.ensures.value in
    sym (op_unused name (ap is_some (sym same) ∙ c.is_none.ensures ∙ ap not c.if-is_none.true))

pub returns-in_ok-of-in-Some : goal.returns-in_ok-of-in-Some
returns-in_ok-of-in-Some c =
    let cut = c.in-Some.ensures.cases in
    let name = c.args.name.now in
    let same : c.content_of.result ≡ content_of name = c.content_of.ensures ∙ ap content_of c.as_bytes.ensures.value in
    let after : c.in-Some.rest.now ≡ drop 8 name = cut.2 ∙ ap (λ n. drop n name) cut.1.0 in
    let is : name ≡ codes "xformOp:" ++ drop 8 name = cut.1.1 ∙ ap (λ n. codes "xformOp:" ++ drop n name) cut.1.0 in
    let located = op_located name is (ap is_some (sym same) ∙ c.is_none.ensures ∙ ap not c.if-is_none.false) in
    ap Some (c.in_ok-of-in-Some.ensures ∙ c.xform_op.ensures ∙ ap op_at after) ∙ sym located

pub returns-in-None : goal.returns-in-None
returns-in-None c =
    subst (λ (o : Option Locator). IfOk c.named_locator.result (λ at. at ≡ o)) (plain_located c.args.name.now c.in-None.ensures.cases) c.named_locator.ensures
