use Rattle.std.proofs.Common.{◌<◌, ◌+◌, suc, length, take, get_or, None, ap, ◌∙◌, rules, add-one}
use Rattle.std.specs.List.{count_by}
use Rattle.hd_registry.specs.Entries.{if_used, is_unused}
use Rattle.hd_registry.proofs.Collections.{map_step2, asked_before, count_step, counted_one, counted_none}
use Rattle.hd_registry.proofs.collecting.collect.Goals as goal
use Rattle.hd_registry.proofs.collecting.collect.Goals.{then-collect_at, else-collect_at}

pub loop-place-preserved : goal.loop-place-preserved
loop-place-preserved g c =
    let initial = c.args.entries.now.items in
    let i = c.loop-place.place in
    let within : i < length initial = search rules in
    let items = map_step2 if_used initial c.loop-place.entries.items c.collect_at.new.entries.items i None within c.loop-place.invariant.0 c.collect_at.ensures.entries in
    let dropped = asked_before initial c.loop-place.entries.items i c.collect_at.result c.collect_at.ensures.dropped c.loop-place.invariant.0 in
    let counted = count_step is_unused initial i None within in
    let before = count_by is_unused (take i initial) in
    let after = count_by is_unused (take (suc i) initial) in
    let passes = is_unused (get_or initial i None) in
    rw (add-one) (
      items,
      c.collect_at.ensures.indexed,
      (elim c.if-collect_at.branch [
        | then-collect_at w ↦ counted_one passes c.collect_at.result before after c.if-collect_at.count dropped w.if-collect_at.true (w.count-is ∙ ap (λ n. n + 1) c.loop-place.invariant.2) counted
        | else-collect_at w ↦ counted_none passes c.collect_at.result before after c.if-collect_at.count dropped w.if-collect_at.false (w.count-is ∙ c.loop-place.invariant.2) counted
      ]),
    )
