use Rattle.std.proofs.Common.{◌≤◌, length, map, string_bytes}
use Rattle.std.proofs.lemmas.List.{length-map}
use Rattle.hd_app.specs.Commands.{step}
use Rattle.hd_app.proofs.RunLemmas.{refused_runs}
use Rattle.hd_app.proofs.ScriptLemmas.{stepped_runs}
use Rattle.hd_app.proofs.top.step.Goals as goal

pub returns-in-Ok-clause-runs : goal.returns-in-Ok-clause-runs
returns-in-Ok-clause-runs g c =
    let few : length (map string_bytes c.args.layers.now) ≤ 8 = rw (length-map c.args.layers.now string_bytes) c.in-Ok.ensures.taken in
    stepped_runs (map string_bytes c.args.layers.now) c.args.script.now c.in-Ok.layers.items c.deref.result.now
    (g.S.Shelf.state c.args.shelf.now) (g.S.Shelf.state c.read_inputs.new.shelf)
    (record { rack = g.R.Rack.state c.args.rack.now; sink = g.O.Sink.state c.args.out.now })
    (record { rack = g.R.Rack.state c.run_over.new.rack; sink = g.O.Sink.state c.run_over.new.out }) c.run_over.result few
    (rw c.deref.ensures.value c.in-Ok.ensures.told) c.in-Ok.ensures.kept c.in-Ok.ensures.left_open c.run_over.ensures.ends

pub returns-in-Err-clause-runs : goal.returns-in-Err-clause-runs
returns-in-Err-clause-runs g c =
    refused_runs (step (map string_bytes c.args.layers.now) c.args.script.now) c.in-Err.refusal _ _ _ _ _ c.in-Err.ensures.refusal (c.refuse.ensures.ends _)
