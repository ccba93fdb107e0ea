use Rattle.std.proofs.Common.{◌∙◌, ap, sym, refl, not, ℕ, Vec, Global}
use Rattle.std.proofs.lemmas.Result.{IfOk-weaker, on_ok_weaker}
use Rattle.std.specs.FinSet as set
use Rattle.hd_usda.proofs.SeenNames.{contains_seen, name_cmp}
use Rattle.hd_usda.proofs.SeenKeys.{insert_owned}
use Rattle.hd_usda.proofs.grammar.name_set.NameSet.add.Goals as goal

pub returns-clause-added : goal.returns-clause-added
returns-clause-added c =
    IfOk-weaker c.insert.result _ _ (λ added h. h ∙ ap not (sym (contains_seen (λ k. k.items) c.self.inside.names.keys c.args.name.items) ∙ ap (λ s. set.contains s c.args.name.items) c.self.view_is)) c.insert.ensures.added

pub returns-clause-names : goal.returns-clause-names
returns-clause-names c =
    on_ok_weaker c.insert.result (λ d. insert_owned (λ (k : Vec ℕ Global). k.items) (λ x y. name_cmp x.items y.items) (λ x y. refl) c.self.inside.names.keys c.insert.new.self.keys c.args.name d ∙ ap (λ s. set.insert s c.args.name.items) c.self.view_is) c.insert.ensures.keys
