use Rattle.std.proofs.Common.{◌≡◌, ◌++◌, ◌⊎◌, inl, inr, IfOk, append_assoc, length, length-drop, drop, sym, ap, subst, ◌∙◌, arith, rules}
use Rattle.std.proofs.lemmas.Result.{on_ok_weaker}
use Rattle.hd_value.specs.Maps.{Map}
use Rattle.hd_value.specs.inner.Overlays.{IsOver}
use Rattle.hd_path.proofs.NamePrefixes.{slice_to_end}
use Rattle.hd_value.proofs.Overlaying.{item_falls, level_shallow}
use Rattle.hd_value.proofs.Merging.{merge, over_by_nothing, over_nothing, over_level, merge-rest, laid-merge}
use Rattle.hd_value.proofs.container.overlaying.+overlay.Goals.{merge-then-loop-i-test+else-j-under, merge-else-loop-i-test}
use Rattle.hd_value.proofs.container.overlaying.+overlay.Goals as goal

pub container_over-returns-then-is_empty : goal.container_over-returns-then-is_empty
container_over-returns-then-is_empty t c =
    let none : length c.entries-over.result.now ≡ 0 = search rules in
    subst (λ (m : Map). IfOk c.copy.result (λ whole. whole ≡ m)) (over_by_nothing c.args.strong.now c.args.weak.now c.entries-over.result.now c.entries-under.result.now c.entries-over.ensures.map c.entries-under.ensures.map c.entries-under.ensures.entries none) c.copy.ensures

pub container_over-returns-then-is_empty-2 : goal.container_over-returns-then-is_empty-2
container_over-returns-then-is_empty-2 t c =
    let none : length c.entries-under.result.now ≡ 0 = search rules in
    subst (λ (m : Map). IfOk c.copy-then-is_empty-2.result (λ whole. whole ≡ m)) (over_nothing c.args.strong.now c.args.weak.now c.entries-over.result.now c.entries-under.result.now c.entries-over.ensures.map c.entries-under.ensures.map c.entries-over.ensures.entries none) c.copy-then-is_empty-2.ensures

pub container_over-merge-requires : goal.container_over-merge-requires
container_over-merge-requires t c =
    (omega (arith, level_shallow c.args.strong.now c.entries-over.result.now c.entries-over.ensures.map), (c.in_ok-all.ensures.items, (c.entries-over.ensures.entries, c.entries-under.ensures.entries)))

pub container_over-returns : goal.container_over-returns
container_over-returns t c =
    subst (λ (m : Map). IfOk c.of_entries.result (λ whole. whole ≡ m)) (over_level c.args.strong.now c.args.weak.now c.entries-over.result.now c.entries-under.result.now c.merge.new.all.items c.entries-over.ensures.map c.entries-under.ensures.map c.entries-over.ensures.entries c.entries-under.ensures.entries c.in_ok-merge.ensures) c.of_entries.ensures

pub merge-source_over-requires : goal.merge-source_over-requires
merge-source_over-requires t c =
    (omega (arith, item_falls c.args.over.now c.loop-i.i c.index-over-i-in-Equal.result c.requires.over (omega arith)), tt)

pub merge-returns : goal.merge-returns
merge-returns t c =
    let over = c.args.over.now in
    let under = c.args.under.now in
    let ended : (length (drop c.loop-i.i over) ≡ 0) ⊎ (length (drop c.loop-i.j under) ≡ 0) =
    elim c.loop-i-test.branch [ merge-then-loop-i-test+else-j-under w ↦ inr (omega (arith, length-drop c.loop-i.j under)) | merge-else-loop-i-test w ↦ inl (omega (arith, length-drop c.loop-i.i over)) ]
    in
    on_ok_weaker c.append_copies-2.result
    (λ added.
    let all : c.append_copies-2.new.all.items ≡ merge over under =
    added
    ∙ ap (λ es. c.append_copies.new.all.items ++ es) (slice_to_end under c.loop-i.j)
    ∙ ap (λ es. es ++ drop c.loop-i.j under) (c.in_ok-append_copies.ensures ∙ ap (λ es. c.loop-i.all.items ++ es) (slice_to_end over c.loop-i.i))
    ∙ append_assoc c.loop-i.all.items (drop c.loop-i.i over) (drop c.loop-i.j under)
    ∙ ap (λ es. c.loop-i.all.items ++ es) (sym (merge-rest (drop c.loop-i.i over) (drop c.loop-i.j under) ended))
    ∙ c.loop-i.invariant.so_far
    in
    subst (IsOver over under) (sym all) (laid-merge over under c.requires.over c.requires.under)) c.append_copies-2.ensures
