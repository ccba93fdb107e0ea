use Rattle.std.proofs.Common.{◌||◌, ◌∙◌, ap}
use Rattle.std.specs.BTreeSet.{contains}
use Rattle.hd_path.specs.Names.{Name, is_same, byte_order}
use Rattle.hd_merging.proofs.Naming.{name_added}
use Rattle.hd_merging.proofs.queries.add_name.Goals as goal

pub returns : goal.returns
returns c = λ other.
    name_added c.in_ok-copy.field-0 other (contains byte_order c.insert.new.self other) (contains byte_order c.args.names.now other) (c.in_ok-insert.ensures.updates.0 other)
    ∙ ap (λ (name : Name). contains byte_order c.args.names.now other || is_same other name) c.in_ok-copy.ensures
