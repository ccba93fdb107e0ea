use Rattle.std.proofs.Common.{◌≡◌, ◌-◌, suc, length, map, drop, ap, ◌∙◌, arith}
use Rattle.std.specs.FinMap.{get}
use Rattle.hd_tokens.specs.Locators.{Locator}
use Rattle.hd_value.specs.Maps.{overlaid_at}
use Rattle.hd_value.proofs.Overlaying.{overlaid_step, overlaid_last, overlaid_none}
use Rattle.hd_value.proofs.container.Container.overlay.Goals as goal

pub returns-then-left-eq0 : goal.returns-then-left-eq0
returns-then-left-eq0 c = overlaid_none (λ part. part.now) c.args.parts.now c.new.result c.if-left-eq0.true c.new.ensures

pub loop-left-init : goal.loop-left-init
loop-left-init c = record {
  in_range = omega arith;
  laid = overlaid_last (λ part. part.now) c.args.parts.now (length c.args.parts.now - 1) c.index-parts-left.result c.in_ok-whole.whole (omega arith) c.index-parts-left.is c.in_ok-whole.ensures;
}

pub loop-left-preserved : goal.loop-left-preserved
loop-left-preserved c =
    let next : c.loop-left.left ≡ suc (c.loop-left.left - 1) = omega arith in
    let laid : (at : Locator) → get c.loop-left.whole at ≡ overlaid_at (map (λ part. part.now) (drop (suc (c.loop-left.left - 1)) c.args.parts.now)) at =
    λ at. c.loop-left.invariant.laid at ∙ ap (λ k. overlaid_at (map (λ part. part.now) (drop k c.args.parts.now)) at) next
    in
    record {
      in_range = omega arith;
      laid = overlaid_step (λ part. part.now) c.args.parts.now (c.loop-left.left - 1) c.index-parts-left-in-loop-left.result c.loop-left.whole c.in_ok-whole-2.whole (omega arith) c.index-parts-left-in-loop-left.is laid c.in_ok-whole-2.ensures;
    }
