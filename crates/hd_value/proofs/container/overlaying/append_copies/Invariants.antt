use Rattle.std.proofs.Common.{◌≡◌, ◌++◌, take}
use Rattle.hd_value.proofs.container.overlaying.append_copies.Given as goal

abbrev pub invariant-loop-entry : goal.invariant-loop-entry
invariant-loop-entry l = l.all.items ≡ l.initial.all.items ++ take l.entry-index l.entries
