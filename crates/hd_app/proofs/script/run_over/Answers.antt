use Rattle.std.proofs.Common.{[]}
use Rattle.hd_session.specs.States.{opening_state}
use Rattle.hd_app.specs.Scripts.{lines_of, outcome_of_lines}
use Rattle.hd_app.proofs.LineLemmas.{unbegun}
use Rattle.hd_app.proofs.script.run_over.Goals as goal

pub returns-in-Err : goal.returns-in-Err
returns-in-Err g c = record { ends = unbegun (outcome_of_lines c.args.name.now 1 (opening_state c.args.layers.items) [] (lines_of c.args.bytes.now)) _ }
