use Rattle.std.proofs.Common.{◌≡◌, ◌++◌, map, take, drop}
use Rattle.std.specs.List.{count_by}
use Rattle.hd_registry.specs.Entries.{if_used, is_unused}
use Rattle.hd_registry.specs.inner.Indexes.{IsIndexed}
use Rattle.hd_registry.proofs.collecting.collect.Given as goal

abbrev pub invariant-loop-place : goal.invariant-loop-place
invariant-loop-place g l =
    (l.entries.items ≡ map if_used (take l.place l.initial.entries.items) ++ drop l.place l.initial.entries.items)
    × (IsIndexed g.C.Content.digest_of l.entries.items l.index)
    × (l.count ≡ count_by is_unused (take l.place l.initial.entries.items))
