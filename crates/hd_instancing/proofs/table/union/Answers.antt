use Rattle.std.proofs.Common.{◌≡◌, ◌||◌, List, sym, ◌∙◌, subst}
use Rattle.std.proofs.lemmas.Result.{IfOk-weaker}
use Rattle.std.specs.BTreeSet as set
use Rattle.hd_path.specs.Paths.{Path, path_cmp}
use Rattle.hd_instancing.specs.inner.Tables.{is_among, IsUnion}
use Rattle.hd_instancing.proofs.Prefixed.{union_both}
use Rattle.hd_instancing.proofs.table.union.Goals as goal

pub returns : goal.returns
returns c =
    let firsts = subst (λ (ps : List Path). (q : Path) → set.contains path_cmp c.add_paths.new.all q ≡ (set.contains path_cmp c.new-all.result q || is_among q ps)) c.items.ensures c.in_ok-add_paths.ensures in
    let seconds = subst (λ (ps : List Path). (q : Path) → set.contains path_cmp c.add_paths-2.new.all q ≡ (set.contains path_cmp c.add_paths.new.all q || is_among q ps)) c.items-2.ensures c.in_ok-add_paths-2.ensures in
    let both = union_both c.args.first c.args.second c.new-all.result c.add_paths.new.all c.add_paths-2.new.all c.new-all.ensures.empty firsts seconds c.in_order.ensures.ordered in
    IfOk-weaker c.of.result _ _ (λ all is. subst (IsUnion c.args.first c.args.second) (sym (is ∙ c.in_ok-in_order.ensures.all)) both) c.of.ensures
