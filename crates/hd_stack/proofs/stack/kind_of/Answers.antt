use Rattle.std.proofs.Common.{ℕ, ◌+◌, ◌≤◌, List, length, Option, option_copied, sym, ◌∙◌, ap, arith}
use Rattle.hd_scene.specs.Scenes.{kind_at}
use Rattle.hd_retained.specs.Edits.{State}
use Rattle.hd_stack.specs.Stacks.{composed_scene}
use Rattle.hd_stack.specs.inner.Kinds.{kind_over}
use Rattle.hd_stack.specs.inner.Terminals.{layers_of}
use Rattle.hd_stack.proofs.KindsOf.{kind_from, kind_asked, all_asked}
use Rattle.hd_stack.proofs.stack.kind_of.Goals as goal

pub loop-k-preserved : goal.loop-k-preserved
loop-k-preserved c =
    let inputs : List State = c.args.inputs.now.inputs in
    let path = c.args.path.now in
    kind_asked inputs c.loop-k.k c.input.result.now path (kind_at (composed_scene (layers_of inputs)) path) (option_copied c.loop-k.found) (option_copied c.in_ok-kind.field-0) c.input.ensures c.in_ok-kind.ensures c.loop-k.invariant
    ∙ ap (λ (kind : Option (List ℕ)). kind_over kind (kind_from inputs (c.loop-k.k + 1) path)) (sym c.kind_over-found.ensures)

pub returns : goal.returns
returns c =
    let inputs : List State = c.args.inputs.now.inputs in
    let path = c.args.path.now in
    let end : length inputs ≤ c.loop-k.k = omega (arith, c.count-k-end.ensures, c.loop-k-test.false) in
    all_asked inputs c.loop-k.k path (kind_at (composed_scene (layers_of inputs)) path) (option_copied c.loop-k.found) end c.loop-k.invariant
