use Rattle.std.proofs.Common.{◌≡◌, ◌∷◌, ◌-◌, OnOk, length, take, drop, subst}
use Rattle.hd_tokens.specs.Locators.{Locator}
use Rattle.hd_value.specs.Maps.{set_at}
use Rattle.hd_value.proofs.Setting.{named_by}
use Rattle.hd_value.proofs.container.Container.set.Goals as goal

pub returns-clause-ok : goal.returns-clause-ok
returns-clause-ok c =
    let named : c.index-tokens-0.result ∷ take (length c.elements-tokens.result.now - 1) (drop 1 c.elements-tokens.result.now) ≡ c.args.at.now = named_by c.args.at.now c.elements-tokens.result.now c.index-tokens-0.result c.elements-tokens.ensures c.requires.named c.index-tokens-0.is in
    subst (λ (at : Locator). OnOk c.put.result (c.put.new.container ≡ set_at c.args.self.now at c.args.value)) named c.put.ensures.ok
