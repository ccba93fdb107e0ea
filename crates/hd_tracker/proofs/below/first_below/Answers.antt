use Rattle.std.proofs.Common.{◌≡◌, true, false, List, Option, Some, None, IfSome, is_some, slice_get, refl, sym, ◌∙◌, ap, subst}
use Rattle.std.specs.BTreeMap.{get}
use Rattle.std.specs.BTreeMap.Range.{IsEntryInRange}
use Rattle.std.specs.Ordering.{is_gt}
use Rattle.std.specs.declared.ops.Bound.TheVariants.{Included, Unbounded}
use Rattle.hd_path.proofs.Logic.{true_is_not}
use Rattle.hd_path.specs.Paths.{Path, path_cmp}
use Rattle.hd_tracker.specs.declared.tracker.Tracked.{Tracked}
use Rattle.hd_tracker.proofs.Between.{prefix_first, between_prefix}
use Rattle.hd_tracker.proofs.below.first_below.Goals as goal

-- a path below would be above the first entry, which then is below too
pub returns-else-has_prefix-clause-none : goal.returns-else-has_prefix-clause-none
returns-else-has_prefix-clause-none c = λ p h.
    let path = c.args.path.now in
    let first = c.in-Some.first.now in
    let found = c.range.ensures.in_range tt in
    let least : is_some (get path_cmp c.args.kept.now p) ≡ true → is_gt (path_cmp first p) ≡ false = λ there.
    subst (λ (es : List (Path × Tracked)). IfSome (slice_get es 0) (λ e. is_gt (path_cmp e.0 p) ≡ false)) c.in-Some.ensures.steps (found.2 p (prefix_first path p h, tt) there) in
    let from : is_gt (path_cmp path first) ≡ false =
    (subst (λ (es : List (Path × Tracked)). IfSome (slice_get es 0) (λ e. IsEntryInRange path_cmp (Included path) Unbounded c.args.kept.now e)) c.in-Some.ensures.steps found.1).0.0 in
    elim (get path_cmp c.args.kept.now p) as (λ (o : Option Tracked). get path_cmp c.args.kept.now p ≡ o → o ≡ None) [
      | None ↦ λ _. refl
      | Some t ↦ λ there. true_is_not (sym (between_prefix path first p h from (least (ap is_some there))) ∙ sym c.has_prefix.ensures ∙ c.if-has_prefix.false)
    ] refl

pub returns-in-None-clause-none : goal.returns-in-None-clause-none
returns-in-None-clause-none c = λ p h. (c.range.ensures.in_range tt).5 c.in-None.ensures.steps.0 p (prefix_first c.args.path.now p h, tt)
