use Rattle.std.proofs.Common.{◌≡◌, ◌++◌, drop, map}
use Rattle.std.specs.List.{flat_map}
use Rattle.hd_registry.specs.Entries.{Entries}
use Rattle.hd_rprim.specs.declared.buffer.Buffer.{Buffer}
use Rattle.hd_rprim.specs.Shown.{shown}
use Rattle.hd_draws.specs.Placements.{instancer_at, copies_by}
use Rattle.hd_draws.proofs.placements.placements.Given as goal

-- the copies so far, and those by the instancers that are left, are all
abbrev pub invariant-loop-instancer : goal.invariant-loop-instancer
invariant-loop-instancer l = (entries : Entries Buffer) →
    l.made.items ++ flat_map (λ instancer. copies_by l.path l.row.matrix (instancer_at (map (shown entries) l.rows) instancer)) (drop l.instancer-index l.row.instanced_by)
    ≡ flat_map (λ instancer. copies_by l.path l.row.matrix (instancer_at (map (shown entries) l.rows) instancer)) l.row.instanced_by
