use Rattle.std.proofs.Common.{◌≡◌, ◌++◌}
use Rattle.hd_merging.proofs.queries.in_order.Given as goal

abbrev pub invariant-loop-name : goal.invariant-loop-name
invariant-loop-name l = l.fn.names.keys ≡ l.all.items ++ l.name-iterator
