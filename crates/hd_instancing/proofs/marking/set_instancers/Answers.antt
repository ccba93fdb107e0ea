use Rattle.std.proofs.Common.{◌≡◌, ◌≢◌, ◌∙◌, [], sym, subst}
use Rattle.std.proofs.lemmas.Bool.{false≢true}
use Rattle.std.specs.Prelude.{OnOk}
use Rattle.hd_value.specs.Maps.{Map}
use Rattle.hd_instancing.proofs.Marked.{instancers_free, some_put}
use Rattle.hd_instancing.proofs.marking.set_instancers.Goals as goal

pub set_at-requires-clause-free : goal.set_at-requires-clause-free
set_at-requires-clause-free c = instancers_free c.args.values.now c.locators_are_prefix_free.ensures.rootless

pub returns : goal.returns
returns c =
    let some : c.args.instancers ≢ [] = λ e. false≢true (sym c.if-is_empty.false ∙ c.is_empty.ensures.1 e) in
    subst (λ (m : Map). OnOk c.set_at.result (c.set_at.new.self ≡ m)) (some_put c.args.instancers c.args.values.now some) c.set_at.ensures.ok
