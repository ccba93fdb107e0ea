use Rattle.hd_app.specs.Commands.{draw}
use Rattle.hd_app.proofs.InputLemmas.{layer_refuses}
use Rattle.hd_app.proofs.RunLemmas.{drawn_runs, refused_runs}
use Rattle.hd_app.proofs.top.draw.Goals as goal

pub returns-in-Ok-clause-runs : goal.returns-in-Ok-clause-runs
returns-in-Ok-clause-runs g c = drawn_runs c.args.layer.now c.args.name.now c.in-Ok.read _ _ _ _ _ c.in-Ok.ensures.layer c.in-Ok.ensures.kept c.in-Ok.ensures.left_open c.show.ensures.ends

pub returns-in-Err-clause-runs : goal.returns-in-Err-clause-runs
returns-in-Err-clause-runs g c =
    refused_runs (draw c.args.layer.now c.args.name.now) c.in-Err.refusal _ _ _ _ _
    (layer_refuses c.args.layer.now c.args.name.now _ _ c.in-Err.refusal c.in-Err.ensures.refusal) (c.refuse.ensures.ends _)
