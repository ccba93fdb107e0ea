use Rattle.std.proofs.Common.{◌≡◌, ℕ, ◌||◌, cond, List, Option, sym, ap, ◌∙◌}
use Rattle.std.specs.FinMap.{get}
use Rattle.hd_num.specs.Matrices.{Rows}
use Rattle.hd_tokens.specs.Locators.{reset_at}
use Rattle.hd_value.specs.Maps.{Map}
use Rattle.hd_flattening.specs.Values.{tokens_of, is_set}
use Rattle.hd_flattening.specs.Local.{begins_with_reset, compose, local, order_of, ops_product}
use Rattle.hd_flattening.specs.Flat.{flat_matrix, resets_xform_stack}
use Rattle.hd_flattening.proofs.inherited.Inherited.matrix.Goals as goal

pub returns-then-resets_xform_stack : goal.returns-then-resets_xform_stack
returns-then-resets_xform_stack c = λ (above : List Map) is.
    let prim : Map = c.args.values.now in
    let order = c.tokens_of-order.ensures ∙ ap tokens_of c.value_at.ensures in
    let reset = c.is_set-is_root_of_prototype.ensures ∙ ap is_set c.value_at-2.ensures in
    let resets : c.resets_xform_stack.result ≡ resets_xform_stack prim above =
    c.resets_xform_stack.ensures
    ∙ ap (λ (ts : List (List ℕ)). begins_with_reset ts || c.is_set-is_root_of_prototype.result || c.args.self.now.is_root) order
    ∙ ap (λ b. begins_with_reset (order_of prim) || b || c.args.self.now.is_root) reset
    ∙ ap (λ b. begins_with_reset (order_of prim) || is_set (get prim reset_at) || b) (ap (λ i. i.is_root) is)
    in
    let own : c.ops_product-local.result ≡ local prim = c.ops_product-local.ensures ∙ ap (ops_product prim) order in
    own ∙ ap (λ b. cond b (local prim) (compose (local prim) (flat_matrix above))) (sym (sym resets ∙ c.if-resets_xform_stack.true))

pub returns-else-resets_xform_stack : goal.returns-else-resets_xform_stack
returns-else-resets_xform_stack c = λ (above : List Map) is.
    let prim : Map = c.args.values.now in
    let order = c.tokens_of-order.ensures ∙ ap tokens_of c.value_at.ensures in
    let reset = c.is_set-is_root_of_prototype.ensures ∙ ap is_set c.value_at-2.ensures in
    let resets : c.resets_xform_stack.result ≡ resets_xform_stack prim above =
    c.resets_xform_stack.ensures
    ∙ ap (λ (ts : List (List ℕ)). begins_with_reset ts || c.is_set-is_root_of_prototype.result || c.args.self.now.is_root) order
    ∙ ap (λ b. begins_with_reset (order_of prim) || b || c.args.self.now.is_root) reset
    ∙ ap (λ b. begins_with_reset (order_of prim) || is_set (get prim reset_at) || b) (ap (λ i. i.is_root) is)
    in
    let own : c.ops_product-local.result ≡ local prim = c.ops_product-local.ensures ∙ ap (ops_product prim) order in
    c.compose.ensures
    ∙ ap (λ (m : Option Rows). compose m c.args.self.now.matrix) own
    ∙ ap (compose (local prim)) (ap (λ i. i.matrix) is)
    ∙ ap (λ b. cond b (local prim) (compose (local prim) (flat_matrix above))) (sym (sym resets ∙ c.if-resets_xform_stack.false))
