use Rattle.std.proofs.Common.{◌≡◌, ◌+◌, [], ◌∷◌, ◌++◌, ◌∙◌, sym, ap, drop, map}
use Rattle.std.proofs.lemmas.Bool.{false≢true}
use Rattle.std.proofs.lemmas.List.{drop_more}
use Rattle.hd_path.specs.Paths.{Path}
use Rattle.hd_rprim.specs.Shown.{shown}
use Rattle.hd_draws.specs.Placements.{instancer_at, copies_by}
use Rattle.hd_draws.proofs.Copies.{all_copies}
use Rattle.hd_draws.proofs.Pushing.{flat_next}
use Rattle.hd_draws.proofs.placements.placements.Goals as goal

pub loop-instancer-preserved : goal.loop-instancer-preserved
loop-instancer-preserved c = λ entries.
    let item = c.instancer-item.result in
    let i = c.loop-instancer.instancer-index in
    let next : drop i c.args.row.now.instanced_by ≡ item ∷ drop (i + 1) c.args.row.now.instanced_by =
    rw (← c.items-instancer-items.ensures) (drop_more c.items-instancer-items.result.now i item c.loop-instancer-test.true ∙ ap (λ (x : Path). x ∷ drop (i + 1) c.items-instancer-items.result.now) (sym c.instancer-item.is))
    in
    flat_next (λ instancer. copies_by c.args.path.now c.args.row.now.matrix (instancer_at (map (shown entries) c.args.rows.now) instancer))
    c.loop-instancer.made.items c.push_copies.new.made.items _ item _ _ next
    (c.in_ok-push_copies.ensures ∙ ap (λ found. c.loop-instancer.made.items ++ copies_by c.args.path.now c.args.row.now.matrix found) (c.instancer_at-instancer.ensures entries))
    (c.loop-instancer.invariant entries)

pub returns : goal.returns
returns c = λ entries.
    let filled : c.args.row.now.instanced_by ≡ [] → ⊥ = λ none. false≢true (sym c.if-is_empty.false ∙ c.is_empty.ensures.1 none) in
    all_copies (map (shown entries) c.args.rows.now) c.args.path.now c.args.row.now c.loop-instancer.made.items c.loop-instancer.instancer-index filled
    (rw (← c.items-instancer-items.ensures) c.loop-instancer-test.false)
    (c.loop-instancer.invariant entries)
