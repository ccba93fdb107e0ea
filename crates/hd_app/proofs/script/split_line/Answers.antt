use Rattle.std.proofs.Common.{sym}
use Rattle.hd_app.proofs.TextLemmas.{line_to_feed, line_alone}
use Rattle.hd_app.proofs.script.split_line.Goals as goal

pub returns-in-Some-clause-lines : goal.returns-in-Some-clause-lines
returns-in-Some-clause-lines c = line_to_feed c.args.text.now c.in-Some.end (sym c.in-Some.ensures)

pub returns-in-None-clause-lines : goal.returns-in-None-clause-lines
returns-in-None-clause-lines c = line_alone c.args.text.now (sym c.in-None.ensures)
