use Rattle.std.proofs.Common.{◌≡◌, true, cond, Some, subst}
use Rattle.std.specs.Ordering.{is_eq}
use Rattle.std.specs.BTreeMap as tree
use Rattle.std.specs.BTreeSet as set
use Rattle.hd_path.specs.Paths.{Path, path_cmp}
use Rattle.hd_instancing.proofs.Pairs.{pair_added}
use Rattle.hd_instancing.proofs.table.add_pair.Goals as goal

pub returns : goal.returns
returns c =
    pair_added c.args.target.now c.args.instancer.now c.args.sets.now c.take_set-instancers.new.sets c.insert-2.new.self c.take_set-instancers.result c.insert.new.self
    c.take_set-instancers.ensures.taken c.take_set-instancers.ensures.rest
    (subst (λ (z : Path). (path : Path) → set.contains path_cmp c.insert.new.self path ≡ cond (is_eq (path_cmp z path)) true (set.contains path_cmp c.take_set-instancers.result path)) c.in_ok-copy.ensures
    c.in_ok-insert.ensures.updates.0)
    (subst (λ (z : Path). (path : Path) → tree.get path_cmp c.insert-2.new.self path ≡ cond (is_eq (path_cmp z path)) (Some c.insert.new.self) (tree.get path_cmp c.take_set-instancers.new.sets path)) c.in_ok-copy-2.ensures
    c.in_ok-insert-2.ensures.updates.0)
