use Rattle.std.proofs.Common.{◌≢◌, [], length, sym, ◌∙◌, ap}
use Rattle.std.proofs.lemmas.Result.{IfOk-weaker}
use Rattle.hd_path.specs.Paths.{Path}
use Rattle.hd_instancing.proofs.Prefixed.{at_root, below_root}
use Rattle.hd_instancing.proofs.table.+instancers_of.Goals as goal

pub returns-then-depth-eq0 : goal.returns-then-depth-eq0
returns-then-depth-eq0 t c = λ scene holds.
    at_root scene c.args.path.now c.in_ok-own.own c.args.table.now (sym c.depth.ensures.names ∙ c.if-depth-eq0.true) c.in_ok-own.ensures holds

pub returns : goal.returns
returns t c =
    let path : Path = c.args.path.now in
    let some : path ≢ [] = λ e. c.if-depth-eq0.false (c.depth.ensures.names ∙ ap (λ (p : Path). length p) e) in
    IfOk-weaker c.union.result _ _ (λ all both scene holds.
    below_root scene path c.in_ok-parent.parent c.in_ok-own.own c.in_ok-above.above all c.args.table.now some c.in_ok-parent.ensures c.in_ok-own.ensures holds (c.in_ok-above.ensures scene holds) both) c.union.ensures
