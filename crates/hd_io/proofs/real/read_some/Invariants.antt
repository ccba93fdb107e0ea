use Rattle.std.specs.Io.KnownBytes.{Keeps}
use Rattle.hd_io.proofs.real.read_some.Given as goal

-- a read that was interrupted took nothing
abbrev pub invariant-tries : goal.invariant-tries
invariant-tries g l = Keeps (g.F.Read.remaining l.fn.file) (g.F.Read.remaining l.file)
