use Rattle.std.proofs.Common.{ap, ◌+◌, option_copied}
use Rattle.hd_app.specs.inner.Lines.{lines_left}
use Rattle.hd_app.specs.Outcomes.{byte_limit}
use Rattle.hd_app.proofs.LineLemmas.{script_refused, script_leads, script_ended, counted, same_outside}
use Rattle.hd_app.proofs.script.run_script.Goals as goal

pub returns-in-Err : goal.returns-in-Err
returns-in-Err g c = record {
  ends =
      script_refused c.args.name.now c.lines.number c.args.session.now.state c.lines.session.state c.args.bytes.now (option_copied c.lines.left) c.in-Some.text.now
      c.split_line.result.0.now (lines_left (option_copied c.split_line.result.1))
      (record { rack = g.K.Rack.state c.args.rack.now; sink = g.O.Sink.state c.args.out.now })
      (record { rack = g.K.Rack.state c.lines.rack; sink = g.O.Sink.state c.lines.out })
      (record { rack = g.K.Rack.state c.run_line.new.rack; sink = g.O.Sink.state c.run_line.new.out })
      (record { rack = g.K.Rack.state c.run_line.new.rack; sink = g.O.Sink.state c.refuse.new.out }) c.in-Err.refusal c.refuse.result
      c.lines.invariant.leads (ap (λ left. option_copied left) c.in-Some.is) c.split_line.ensures.lines c.in-Err.ensures.refusal (c.refuse.ensures.ends _)
      (λ broken. (c.refuse.ensures.same broken, same_outside _ _ _ (c.refuse.ensures.kept broken)));
}

pub lines-preserved : goal.lines-preserved
lines-preserved g c = record {
  unspent = c.in_default-run_line.ensures.unspent;
  counted =
      counted c.lines.number (byte_limit + 2) (option_copied c.lines.left) (option_copied c.split_line.result.1) c.in-Some.text.now
      (ap (λ left. option_copied left) c.in-Some.is) c.split_line.ensures.shorter c.lines.invariant.counted;
  leads =
      script_leads c.args.name.now c.lines.number c.args.session.now.state c.lines.session.state c.run_line.new.session.state c.args.bytes.now
      (option_copied c.lines.left) c.in-Some.text.now c.split_line.result.0.now (lines_left (option_copied c.split_line.result.1))
      (record { rack = g.K.Rack.state c.args.rack.now; sink = g.O.Sink.state c.args.out.now })
      (record { rack = g.K.Rack.state c.lines.rack; sink = g.O.Sink.state c.lines.out })
      (record { rack = g.K.Rack.state c.run_line.new.rack; sink = g.O.Sink.state c.run_line.new.out })
      c.lines.invariant.leads (ap (λ left. option_copied left) c.in-Some.is) c.split_line.ensures.lines c.in_default-run_line.ensures.done;
}

pub returns : goal.returns
returns g c = record {
  ends =
      script_ended c.args.name.now c.lines.number c.args.session.now.state c.lines.session.state c.args.bytes.now (option_copied c.lines.left)
      (record { rack = g.K.Rack.state c.args.rack.now; sink = g.O.Sink.state c.args.out.now })
      (record { rack = g.K.Rack.state c.lines.rack; sink = g.O.Sink.state c.lines.out })
      (record { rack = g.K.Rack.state c.end_script.new.rack; sink = g.O.Sink.state c.end_script.new.out }) c.end_script.result
      c.lines.invariant.leads (ap (λ left. option_copied left) c.in_default.is) c.end_script.ensures.ends;
}
