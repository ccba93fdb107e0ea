use Rattle.std.proofs.Common.{◌≡◌, ◌+◌, ◌-◌, ◌≤◌, vec_len}
use Rattle.std.specs.Prelude.{IfSome, IsSomeAnd}
use Rattle.hd_io.specs.Files.{open_bytes}
use Rattle.hd_app.specs.Outcomes.{byte_limit}
use Rattle.hd_app.proofs.Fronts.{IsFront}
use Rattle.hd_app.proofs.reading.read_open.Given as goal

abbrev pub invariant-reading : goal.invariant-reading
invariant-reading g l = record {
  files : (g.S.Shelf.state l.shelf).files ≡ (g.S.Shelf.state l.fn.shelf).files;
  opened : (g.S.Shelf.state l.shelf).opened ≡ (g.S.Shelf.state l.fn.shelf).opened;
  faults : (g.S.Shelf.state l.shelf).faults ≡ (g.S.Shelf.state l.fn.shelf).faults;
  taken : (g.S.Shelf.state l.shelf).taken ≡ vec_len l.bytes;
  within : vec_len l.bytes ≤ byte_limit + 1;
  front : IfSome (g.S.Shelf.state l.fn.shelf).files (λ map. IsSomeAnd (open_bytes map (g.S.Shelf.state l.fn.shelf).opened) (IsFront l.bytes.items));
}

abbrev pub decreases-reading : goal.decreases-reading
decreases-reading g l = byte_limit + 1 - vec_len l.bytes
