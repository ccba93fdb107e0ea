use Rattle.hd_app.proofs.LineLemmas.{unread_line}
use Rattle.hd_app.proofs.script.run_line.Goals as goal

pub returns-in-Err-clause-refusal : goal.returns-in-Err-clause-refusal
returns-in-Err-clause-refusal g c =
    unread_line c.args.name.now c.args.number c.args.session.now.state _ c.in-Err.fault _ _ c.in-Err.ensures.fault c.line_refusal.ensures

pub returns-in-Ok-Some-clause-refusal : goal.returns-in-Ok-Some-clause-refusal
returns-in-Ok-Some-clause-refusal g c = rw (c.in-Ok-Some.ensures.command, c.in-Ok-Some.field-0-is) c.run_command.ensures.refusal
