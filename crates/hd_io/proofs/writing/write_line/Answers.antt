use Rattle.std.proofs.Common.{◌∙◌, ap, refl, arith}
use Rattle.hd_io.specs.Sink.{SinkState}
use Rattle.hd_io.proofs.Cuts.{nothing_added}
use Rattle.hd_io.proofs.Offering.{offered_none, offered_more}
use Rattle.hd_io.proofs.Pieces.{line_more}
use Rattle.hd_io.proofs.writing.write_line.Goals as goal

pub writing-init : goal.writing-init
writing-init g c = record {
  within = omega arith;
  text = nothing_added (g.O.Sink.state c.args.out.now).text;
  offered = offered_none _ _;
  faults = refl;
}

pub writing-preserved : goal.writing-preserved
writing-preserved g c =
    let wrote = c.in_ok-written.ensures.written in
    record {
      within = omega (arith, c.split_at.ensures.back_len, c.in_ok-written.ensures.count);
      text =
          ap (λ (s : SinkState). s.text) wrote
          ∙ rw (c.split_at.ensures.back, c.writing.invariant.text) (line_more c.args.line.now c.writing.written c.in_ok-written.field-0 (g.O.Sink.state c.args.out.now).text);
      offered =
          offered_more c.args.line.now c.writing.written c.in_ok-written.field-0 _ _ _ c.writing.invariant.offered
          (rw (← c.split_at.ensures.back) (ap (λ (s : SinkState). s.offers) wrote));
      faults = ap (λ (s : SinkState). s.faults) wrote ∙ c.writing.invariant.faults;
    }
