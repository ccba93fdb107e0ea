use Rattle.std.specs.Io.KnownBytes.{Keeps}
use Rattle.hd_io.proofs.real.write_some.Given as goal

-- a write that was interrupted left nothing
abbrev pub invariant-tries : goal.invariant-tries
invariant-tries g l = Keeps (g.W.Write.contents l.fn.writer) (g.W.Write.contents l.writer)
