use Rattle.std.proofs.Common.{◌∙◌, ap, refl, arith}
use Rattle.hd_io.specs.Rack.{RackState}
use Rattle.hd_io.proofs.Offering.{offered_none, offered_more}
use Rattle.hd_io.proofs.Pieces.{bytes_begin, bytes_more}
use Rattle.hd_io.proofs.writing.write_bytes.Goals as goal

pub writing-init : goal.writing-init
writing-init g c = record {
  within = omega arith;
  open_ = c.requires;
  files = bytes_begin (g.R.Rack.state c.args.rack.now).files;
  offered = offered_none _ _;
  faults = refl;
}

pub writing-preserved : goal.writing-preserved
writing-preserved g c =
    let wrote = c.in_ok-written.ensures.written in
    record {
      within = omega (arith, c.split_at.ensures.back_len, c.in_ok-written.ensures.count);
      open_ = ap (λ (s : RackState). s.is_open) wrote ∙ c.writing.invariant.open_;
      files =
          ap (λ (s : RackState). s.files) wrote
          ∙ rw (c.split_at.ensures.back, c.writing.invariant.files) (bytes_more c.args.bytes.now c.writing.written c.in_ok-written.field-0 (g.R.Rack.state c.args.rack.now).files);
      offered =
          offered_more c.args.bytes.now c.writing.written c.in_ok-written.field-0 _ _ _ c.writing.invariant.offered
          (rw (← c.split_at.ensures.back) (ap (λ (s : RackState). s.offers) wrote));
      faults = ap (λ (s : RackState). s.faults) wrote ∙ c.writing.invariant.faults;
    }
