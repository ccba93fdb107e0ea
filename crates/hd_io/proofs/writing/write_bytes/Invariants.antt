use Rattle.std.proofs.Common.{◌≡◌, ◌-◌, ◌≤◌, true, length, take}
use Rattle.std.specs.Option.{option_map}
use Rattle.hd_io.specs.Files.{with_bytes}
use Rattle.hd_io.specs.Offers.{Offered}
use Rattle.hd_io.proofs.writing.write_bytes.Given as goal

abbrev pub invariant-writing : goal.invariant-writing
invariant-writing g l = record {
  within : l.written ≤ length l.bytes;
  open_ : (g.R.Rack.state l.rack).is_open ≡ true;
  files : (g.R.Rack.state l.rack).files ≡ option_map (with_bytes (take l.written l.bytes)) (g.R.Rack.state l.fn.rack).files;
  offered : Offered (length l.bytes) (length l.bytes - l.written) (g.R.Rack.state l.fn.rack).offers (g.R.Rack.state l.rack).offers;
  faults : (g.R.Rack.state l.rack).faults ≡ (g.R.Rack.state l.fn.rack).faults;
}

abbrev pub decreases-writing : goal.decreases-writing
decreases-writing g l = length l.bytes - l.written
