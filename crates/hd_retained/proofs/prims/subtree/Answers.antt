use Rattle.std.proofs.Common.{◌≡◌, ℕ, ◌+◌, sym, subst, arith}
use Rattle.hd_retained.proofs.Gathering.{IsGathered, gathered_none, gathered_more, gathered_all}
use Rattle.hd_retained.proofs.prims.subtree.Goals as goal

pub loop-depth-init : goal.loop-depth-init
loop-depth-init c =
    let m = c.args.prims.now in
    let path = c.args.path.now in
    subst (λ (n : ℕ). IsGathered m path n c.new-keys.result.items) (sym c.depth-depth.ensures.names)
    (subst (IsGathered m path _) (sym c.new-keys.ensures.items) (gathered_none m path))

pub loop-depth-preserved : goal.loop-depth-preserved
loop-depth-preserved c =
    let m = c.args.prims.now in
    let path = c.args.path.now in
    subst (IsGathered m path (c.loop-depth.depth + 1)) (sym c.in_ok-add_depth.ensures.added) (gathered_more m path c.loop-depth.depth c.loop-depth.keys.items c.requires.sound c.in_ok-add_depth.ensures.ordered c.loop-depth.invariant)

pub returns : goal.returns
returns c =
    let m = c.args.prims.now in
    let path = c.args.path.now in
    let all : c.loop-depth.depth ≡ 33 = omega (arith, c.depth-depth.ensures.bound) in
    gathered_all m path c.loop-depth.keys.items c.requires (subst (λ (n : ℕ). IsGathered m path n c.loop-depth.keys.items) all c.loop-depth.invariant)
