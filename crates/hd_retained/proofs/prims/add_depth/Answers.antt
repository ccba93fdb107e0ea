use Rattle.std.proofs.Common.{◌≡◌, List, ◌∷◌, ◌++◌, map, false, sym, ◌∙◌, ap}
use Rattle.std.proofs.lemmas.List.{append-nil}
use Rattle.std.specs.Map.Iter.{deref_pair}
use Rattle.hd_retained.specs.declared.stored.DepthKey.{DepthKey}
use Rattle.hd_retained.specs.declared.stored.StoredPrim.{StoredPrim}
use Rattle.hd_retained.specs.inner.Indexed.{is_at_depth}
use Rattle.hd_retained.proofs.Depths.{start_at, from_place, walk_stops, walk_ends}
use Rattle.hd_retained.proofs.prims.add_depth.Goals as goal
use Rattle.hd_path.specs.Paths.{Path}

pub returns-then-not-is_at_depth-clause-added : goal.returns-then-not-is_at_depth-clause-added
returns-then-not-is_at_depth-clause-added c =
    let es = c.args.prims.now.entries in
    let front : List (DepthKey × StoredPrim) = map deref_pair c.loop-key.yielded in
    let left : from_place (start_at c.args.depth c.args.path.now) es ≡ front ++ (c.in-Some.key.now, c.in-Some.field-0-1.now) ∷ c.next.new.self =
    ap (λ (p : Path). from_place (start_at c.args.depth p) es) (sym c.in_ok-copy.ensures) ∙ c.loop-key.invariant.left ∙ ap (λ (rest : List (DepthKey × StoredPrim)). front ++ rest) c.in-Some.ensures.steps in
    let fails : is_at_depth c.args.depth c.args.path.now c.in-Some.key.now ≡ false = sym c.is_at_depth.ensures ∙ c.if-not-is_at_depth.true in
    c.loop-key.invariant.found
    ∙ ap (λ (ps : List DepthKey). c.args.keys.now.items ++ ps) (sym (walk_stops c.args.depth c.args.path.now es front c.next.new.self (c.in-Some.key.now, c.in-Some.field-0-1.now) c.range-key-items.ensures.ordered left fails))

pub returns-clause-added : goal.returns-clause-added
returns-clause-added c =
    let es = c.args.prims.now.entries in
    let front : List (DepthKey × StoredPrim) = map deref_pair c.loop-key.yielded in
    let left : from_place (start_at c.args.depth c.args.path.now) es ≡ front =
    ap (λ (p : Path). from_place (start_at c.args.depth p) es) (sym c.in_ok-copy.ensures) ∙ c.loop-key.invariant.left ∙ ap (λ (rest : List (DepthKey × StoredPrim)). front ++ rest) c.in-None.ensures.steps.0 ∙ append-nil front in
    c.loop-key.invariant.found ∙ ap (λ (ps : List DepthKey). c.args.keys.now.items ++ ps) (sym (walk_ends c.args.depth c.args.path.now es front left))
