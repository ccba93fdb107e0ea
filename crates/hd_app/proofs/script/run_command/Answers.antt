use Rattle.hd_app.proofs.LineLemmas.{undone_command}
use Rattle.hd_app.proofs.script.run_command.Goals as goal

pub returns-in-Err-clause-refusal : goal.returns-in-Err-clause-refusal
returns-in-Err-clause-refusal g c =
    undone_command c.args.name.now c.args.number _ c.in-Err.refusal _ _ _ c.in-Err.ensures.refusal c.command_refusal.ensures.given c.command_refusal.ensures.write_fault
