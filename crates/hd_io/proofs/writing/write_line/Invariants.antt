use Rattle.std.proofs.Common.{◌≡◌, ◌-◌, ◌≤◌, length, take}
use Rattle.hd_io.specs.Offers.{Offered}
use Rattle.hd_io.specs.Writing.{with_line}
use Rattle.hd_io.proofs.writing.write_line.Given as goal

abbrev pub invariant-writing : goal.invariant-writing
invariant-writing g l = record {
  within : l.written ≤ length l.line;
  text : (g.O.Sink.state l.out).text ≡ with_line (take l.written l.line) (g.O.Sink.state l.fn.out).text;
  offered : Offered (length l.line) (length l.line - l.written) (g.O.Sink.state l.fn.out).offers (g.O.Sink.state l.out).offers;
  faults : (g.O.Sink.state l.out).faults ≡ (g.O.Sink.state l.fn.out).faults;
}

abbrev pub decreases-writing : goal.decreases-writing
decreases-writing g l = length l.line - l.written
