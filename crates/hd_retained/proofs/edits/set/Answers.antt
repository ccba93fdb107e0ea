use Rattle.std.proofs.Common.{sym, subst}
use Rattle.hd_scene.specs.Scenes.{IsClosed}
use Rattle.hd_retained.specs.Layers.{Layer, scene_of}
use Rattle.hd_retained.specs.inner.Indexed.{prim_of, layer_in}
use Rattle.hd_retained.proofs.Kept.{prim_there}
use Rattle.hd_retained.proofs.Closed.{change_closed}
use Rattle.hd_retained.proofs.edits.set.Goals as goal

pub returns-clause-index : goal.returns-clause-index
returns-clause-index c =
    let layer = layer_in c.args.prims.now in
    let path = c.args.path.now in
    let there = prim_there layer path c.in_ok-stored.field-0 c.in-Some.stored c.in_ok-stored.ensures.prim c.in-Some.is in
    record {
      sound = c.in_ok-put.ensures.sound;
      closed = subst (λ (l : Layer). IsClosed (scene_of l)) (sym c.in_ok-put.ensures.ok) (change_closed layer path (prim_of c.in-Some.stored.now) (prim_of c.in_ok-changed.changed) c.requires.index.closed c.requires.below_root there);
    }
