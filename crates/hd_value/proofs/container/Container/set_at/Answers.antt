use Rattle.std.proofs.Common.{◌≡◌, OnOk, subst}
use Rattle.hd_tokens.specs.Locators.{Locator}
use Rattle.hd_value.specs.Maps.{set_at}
use Rattle.hd_value.proofs.container.Container.set_at.Goals as goal

pub returns-clause-ok : goal.returns-clause-ok
returns-clause-ok c =
    subst (λ (at : Locator). OnOk c.set-2.result (c.set-2.new.self ≡ set_at c.args.self.now at c.args.value)) c.in_ok-fixed.ensures c.set-2.ensures.ok
