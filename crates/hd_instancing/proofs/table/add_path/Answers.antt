use Rattle.std.proofs.Common.{◌||◌, ◌∙◌, ap}
use Rattle.std.specs.Ordering.{eq_by_cmp}
use Rattle.std.specs.BTreeSet.{contains}
use Rattle.hd_path.specs.Paths.{Path, path_cmp}
use Rattle.hd_instancing.proofs.Prefixed.{path_put}
use Rattle.hd_instancing.proofs.table.add_path.Goals as goal

pub returns : goal.returns
returns c = λ other.
    path_put c.in_ok-copy.field-0 other (contains path_cmp c.insert.new.self other) (contains path_cmp c.args.all.now other) (c.in_ok-insert.ensures.updates.0 other)
    ∙ ap (λ (p : Path). contains path_cmp c.args.all.now other || eq_by_cmp path_cmp other p) c.in_ok-copy.ensures
