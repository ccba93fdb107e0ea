use Rattle.std.proofs.Common.{◌≡◌, ◌∷◌, length, Some, None, IsTrue, ◌↔◌, sym, ap, ◌∙◌, rules}
use Rattle.hd_value.specs.declared.container.Source.TheVariants.{Inner, Leaf}
use Rattle.hd_value.specs.inner.Entries.{source_at}
use Rattle.hd_value.proofs.Free.{free_beside, free_inside, free_on_leaf}
use Rattle.hd_value.proofs.container.+is_free_after.Goals as goal

pub returns-in-None-source_in : goal.returns-in-None-source_in
returns-in-None-source_in t c =
    let named : c.args.tokens.now ≡ c.in-Some.first.now ∷ c.in-Some.rest.now = search rules in
    let there : source_at c.in-Some.first.now c.entries.result.now ≡ None = ap (λ token. source_at token c.entries.result.now) (sym c.text.ensures) ∙ sym c.in-None-source_in.ensures in
    let free = free_beside c.args.container.now c.entries.result.now c.args.tokens.now c.in-Some.first.now c.in-Some.rest.now c.entries.ensures.map named c.entries.ensures.entries there in
    (λ _. free, λ _. search rules)

pub returns-in-Some-Leaf : goal.returns-in-Some-Leaf
returns-in-Some-Leaf t c =
    let named : c.args.tokens.now ≡ c.in-Some.first.now ∷ c.in-Some.rest.now = search rules in
    let there : source_at c.in-Some.first.now c.entries.result.now ≡ Some (Leaf c.in-Some-Leaf.field-0-0) = ap (λ token. source_at token c.entries.result.now) (sym c.text.ensures) ∙ sym c.in-Some-Leaf.ensures ∙ ap (λ s. Some s) c.in-Some-Leaf.field-0-is in
    let empty : IsTrue c.is_empty.result ↔ (length c.in-Some.rest.now ≡ 0) = search rules in
    free_on_leaf c.args.container.now c.entries.result.now c.args.tokens.now c.in-Some.first.now c.in-Some.rest.now c.in-Some-Leaf.field-0-0 c.is_empty.result c.entries.ensures.map named c.entries.ensures.entries there empty

pub returns-in-Some-Inner : goal.returns-in-Some-Inner
returns-in-Some-Inner t c =
    let named : c.args.tokens.now ≡ c.in-Some.first.now ∷ c.in-Some.rest.now = search rules in
    let there : source_at c.in-Some.first.now c.entries.result.now ≡ Some (Inner c.in-Some-Inner.inner) = ap (λ token. source_at token c.entries.result.now) (sym c.text.ensures) ∙ sym c.in-Some-Inner.ensures ∙ ap (λ s. Some s) c.in-Some-Inner.field-0-is in
    free_inside c.args.container.now c.entries.result.now c.args.tokens.now c.in-Some.first.now c.in-Some.rest.now c.in-Some-Inner.inner c.is_free_after.result c.entries.ensures.map named c.entries.ensures.entries there c.is_free_after.ensures
