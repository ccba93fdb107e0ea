use Rattle.std.proofs.Common.{◌≡◌, ◌++◌}
use Rattle.hd_instancing.proofs.table.in_order.Given as goal

abbrev pub invariant-loop-path : goal.invariant-loop-path
invariant-loop-path l = l.fn.paths.keys ≡ l.all.items ++ l.path-iterator
