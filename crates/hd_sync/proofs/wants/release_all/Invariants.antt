use Rattle.std.proofs.Common.{◌≡◌, ℕ, ◌+◌, map, drop}
use Rattle.hd_registry.specs.Entries.{content_at, users_at}
use Rattle.hd_sync.specs.Syncing.{listed, uses_all}
use Rattle.hd_sync.proofs.wants.release_all.Given as goal

abbrev pub invariant-loop-slots : goal.invariant-loop-slots
invariant-loop-slots g l = record {
  contents : (t : ℕ) → content_at l.registry t ≡ content_at l.fn.registry t;
  users : (t : ℕ) → users_at l.registry t + uses_all (map listed l.all) t ≡ users_at l.fn.registry t + uses_all (map listed (drop l.slots-index l.all)) t;
}
