use Rattle.std.proofs.Common.{◌≡◌, ◌++◌, take}
use Rattle.hd_value.proofs.locator_set.push_copies.Given as goal

abbrev pub invariant-loop-locator : goal.invariant-loop-locator
invariant-loop-locator l = l.copied.items ≡ l.initial.copied.items ++ take l.locator-index l.locators
