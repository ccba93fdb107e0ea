use Rattle.std.proofs.Common.{◌≡◌, ℕ, false, not, ◌&&◌, nat_le, is_some, sym, ◌∙◌, ap}
use Rattle.std.specs.FinMap.{get, len}
use Rattle.hd_layer.specs.declared.limits.Which.TheVariants.{Prims}
use Rattle.hd_layer.specs.Limits.{limit_of}
use Rattle.hd_retained.specs.inner.Indexed.{layer_in}
use Rattle.hd_retained.proofs.Kept.{there_found, len-kept}
use Rattle.hd_retained.proofs.edits.is_full_for.Goals as goal

pub returns : goal.returns
returns c =
    let layer = layer_in c.args.prims.now in
    let path = c.args.path.now in
    let absent : is_some (get layer path) ≡ false = there_found layer path c.in_ok-find.field-0 c.in_ok-find.ensures.prim ∙ sym c.is_some.ensures ∙ c.if-is_some.false in
    ap (λ (most : ℕ). nat_le most c.len.result) c.number.ensures
    ∙ ap (nat_le (limit_of Prims)) (c.len.ensures.len ∙ sym (len-kept c.args.prims.now c.requires c.len.ensures.ordered)) ∙ ap (λ b. not b && nat_le (limit_of Prims) (len layer)) (sym absent)
