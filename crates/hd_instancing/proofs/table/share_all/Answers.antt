use Rattle.hd_instancing.proofs.Pairs.{Shares, shares_none, shares_more, shared_pairs}
use Rattle.std.proofs.Common.{List, ◌∷◌, subst}
use Rattle.std.specs.BTreeSet.{BTreeSet}
use Rattle.hd_path.specs.Paths.{Path}
use Rattle.hd_instancing.proofs.table.share_all.Goals as goal

pub loop-target-init : goal.loop-target-init
loop-target-init c =
    let gives = c.into_iter-target-iterator.ensures.into_iter_gives in
    shares_none c.args.sets c.into_iter-target-iterator.result c.new-table.result gives.5 gives.0 c.new-table.ensures.empty

pub loop-target-preserved : goal.loop-target-preserved
loop-target-preserved c =
    let next : Shares c.args.sets ((c.in-Some.target, c.in-Some.instancers) ∷ c.next.new.self) c.loop-target.table =
    subst (λ (left : List (Path × BTreeSet Path)). Shares c.args.sets left c.loop-target.table) c.in-Some.ensures.steps c.loop-target.invariant in
    shares_more c.args.sets c.in-Some.target c.in-Some.instancers c.next.new.self c.loop-target.table c.share.new.table next c.share.ensures.ordered c.in_ok-share.ensures.put

pub returns-clause-listed : goal.returns-clause-listed
returns-clause-listed c = shared_pairs c.args.sets c.loop-target.target-iterator c.loop-target.table c.loop-target.invariant c.in-None.ensures.steps.0

pub returns-clause-ascending : goal.returns-clause-ascending
returns-clause-ascending c = c.loop-target.invariant.ascending
