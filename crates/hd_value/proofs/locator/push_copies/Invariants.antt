use Rattle.std.proofs.Common.{◌≡◌, ◌++◌, take}
use Rattle.hd_value.proofs.locator.push_copies.Given as goal

abbrev pub invariant-loop-element : goal.invariant-loop-element
invariant-loop-element l = l.kept.items ≡ l.initial.kept.items ++ take l.element-index l.elements
