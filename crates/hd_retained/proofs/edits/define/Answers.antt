use Rattle.std.proofs.Common.{◌≡◌, true, sym, ◌∙◌, subst}
use Rattle.hd_scene.specs.Scenes.{IsClosed}
use Rattle.hd_retained.specs.Layers.{Layer, scene_of}
use Rattle.hd_retained.specs.Edits.{has_parent}
use Rattle.hd_retained.specs.inner.Indexed.{prim_of, layer_in}
use Rattle.hd_retained.proofs.Closed.{define_closed}
use Rattle.hd_retained.proofs.edits.define.Goals as goal

pub returns-clause-index : goal.returns-clause-index
returns-clause-index c =
    let layer = layer_in c.args.prims.now in
    let path = c.args.path.now in
    let may : has_parent layer path ≡ true = sym c.in_ok-has_parent.ensures ∙ c.if-not-branch.false in
    record {
      sound = c.in_ok-put.ensures.sound;
      closed = subst (λ (l : Layer). IsClosed (scene_of l)) (sym c.in_ok-put.ensures.ok) (define_closed layer path (prim_of c.in_ok-of_kind.field-0) c.requires.index.closed c.requires.below_root c.is_path.ensures may);
    }
