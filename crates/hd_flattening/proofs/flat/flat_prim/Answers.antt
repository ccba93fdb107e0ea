use Rattle.std.proofs.Common.{List, Some, ap, ◌∙◌}
use Rattle.std.proofs.lemmas.Result.{IfOk-weaker}
use Rattle.hd_value.specs.Maps.{Map}
use Rattle.hd_scene.specs.Scenes.{prim_of}
use Rattle.hd_flattening.proofs.flat.flat_prim.Goals as goal

pub returns : goal.returns
returns c =
    IfOk-weaker c.of.result _ _
    (λ prim is. λ (above : List Map) inherited. is ∙ ap (λ (values : Map). prim_of (Some (record { kind = c.args.entry.kind; values = values }))) (c.in_ok-values.ensures above inherited))
    c.of.ensures
