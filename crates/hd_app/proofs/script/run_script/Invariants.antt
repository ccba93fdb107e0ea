use Rattle.std.proofs.Common.{◌≡◌, ◌+◌, ◌≤◌, false, [], option_copied}
use Rattle.hd_app.specs.inner.Lines.{lines_left}
use Rattle.hd_app.specs.Outcomes.{byte_limit}
use Rattle.hd_app.specs.Scripts.{lines_of, outcome_of_lines}
use Rattle.hd_app.proofs.LineLemmas.{LeadsOn, room}
use Rattle.hd_app.proofs.script.run_script.Given as goal

-- how the lines that are left end is how the script ends
abbrev pub invariant-lines : goal.invariant-lines
invariant-lines g l = record {
  unspent : l.session.is_spent ≡ false;
  counted : l.number + room (option_copied l.left) ≤ byte_limit + 2;
  leads : LeadsOn (outcome_of_lines l.name 1 l.fn.session.state [] (lines_of l.bytes))
      (record { rack = g.K.Rack.state l.fn.rack; sink = g.O.Sink.state l.fn.out })
      (outcome_of_lines l.name l.number l.session.state [] (lines_left (option_copied l.left)))
      (record { rack = g.K.Rack.state l.rack; sink = g.O.Sink.state l.out });
}

abbrev pub decreases-lines : goal.decreases-lines
decreases-lines g l = room (option_copied l.left)
