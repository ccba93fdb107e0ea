use Rattle.std.proofs.Common.{◌≡◌, List, [], ◌∷◌, ◌++◌, length, sym, ◌∙◌, ap, subst, arith}
use Rattle.std.proofs.lemmas.Iterator.Adapters.{YieldsList-from_vec}
use Rattle.std.proofs.lemmas.Iterator.Consumers.{YieldsList-end}
use Rattle.std.proofs.lemmas.List.{map_push}
use Rattle.hd_retained.specs.declared.stored.DepthKey.{DepthKey}
use Rattle.hd_retained.specs.Layers.{ArePathsFrom}
use Rattle.hd_retained.specs.inner.Indexed.{layer_in}
use Rattle.hd_retained.proofs.PathsFrom.{Names, paths_of, paths_from, unchanged}
use Rattle.hd_retained.proofs.prims.paths_from.Goals as goal

pub loop-key-preserved : goal.loop-key-preserved
loop-key-preserved c =
    c.in_ok-push.ensures.items ∙ ap (λ (ps : List Names). ps ++ c.in-Some.key.path ∷ []) c.loop-key.invariant ∙ sym (map_push (λ (p : DepthKey). p.path) c.loop-key.yielded c.in-Some.key)

pub returns : goal.returns
returns c =
    let keys = c.in_ok-keys.keys.items in
    let gives = c.into_iter-key-iterator.ensures.into_iter_gives in
    let many : c.into_iter-key-iterator.result.rest.len ≡ length keys = omega (arith, gives.1, c.in_ok-keys.keys.ok) in
    let all = (YieldsList-end (YieldsList-from_vec keys gives.0 many) c.loop-key.yielded c.loop-key.key-iterator c.loop-key.yielded_by c.next.result c.next.new.self c.in-None.is c.next.ensures.steps).0 in
    subst (ArePathsFrom (layer_in c.args.prims.now) c.args.path.now)
    (ap paths_of (sym all ∙ unchanged c.loop-key.yielded) ∙ sym c.loop-key.invariant)
    (paths_from c.args.prims.now c.args.path.now keys c.requires c.in_ok-keys.ensures)
