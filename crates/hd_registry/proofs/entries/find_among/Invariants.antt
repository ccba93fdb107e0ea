use Rattle.std.proofs.Common.{◌≡◌, ℕ, true, Some, drop}
use Rattle.hd_registry.specs.Entries.{content_at}
use Rattle.hd_registry.specs.inner.Indexes.{is_among}
use Rattle.hd_registry.proofs.entries.find_among.Given as goal

abbrev pub invariant-loop-place : goal.invariant-loop-place
invariant-loop-place g l = (p : ℕ) → is_among l.places p ≡ true → content_at l.entries p ≡ Some l.content → is_among (drop l.place-index l.places) p ≡ true
