use Rattle.std.proofs.Common.{◌≡◌, ◌≤◌, length, map, drop}
use Rattle.std.specs.FinMap.{get}
use Rattle.hd_tokens.specs.Locators.{Locator}
use Rattle.hd_value.specs.Maps.{overlaid_at}
use Rattle.hd_value.proofs.container.Container.overlay.Given as goal

abbrev pub invariant-loop-left : goal.invariant-loop-left
invariant-loop-left l = record {
  in_range : l.left ≤ length l.parts;
  laid : (at : Locator) → get l.whole at ≡ overlaid_at (map (λ part. part.now) (drop l.left l.parts)) at;
}

abbrev pub decreases-loop-left : goal.decreases-loop-left
decreases-loop-left l = l.left
