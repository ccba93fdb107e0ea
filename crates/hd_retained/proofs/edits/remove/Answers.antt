use Rattle.std.proofs.Common.{List, not, sym, ◌∙◌, ap, subst}
use Rattle.hd_scene.specs.Scenes.{IsClosed}
use Rattle.hd_retained.specs.declared.stored.DepthKey.{DepthKey}
use Rattle.hd_retained.specs.Layers.{Layer, scene_of}
use Rattle.hd_retained.specs.inner.Indexed.{layer_in, IsWithout}
use Rattle.hd_retained.proofs.Kept.{there_found}
use Rattle.hd_retained.proofs.Closed.{remove_closed, without_sound, without_layer, removed}
use Rattle.hd_retained.proofs.edits.remove.Goals as goal

pub returns-clause-index : goal.returns-clause-index
returns-clause-index c =
    let m = c.args.prims.now in
    let n = c.remove_all.new.prims in
    let path = c.args.path.now in
    let without : IsWithout m c.in_ok-keys.keys.items n = subst (λ (ps : List DepthKey). IsWithout m ps n) c.deref.ensures.value c.remove_all.ensures in
    record {
      sound = without_sound m n c.in_ok-keys.keys.items c.requires.index.sound without;
      closed = subst (λ (l : Layer). IsClosed (scene_of l)) (sym (without_layer m n path c.in_ok-keys.keys.items c.requires.index.sound c.in_ok-keys.ensures without)) (remove_closed (layer_in m) path c.requires.index.closed);
    }

pub returns-clause-done : goal.returns-clause-done
returns-clause-done c =
    let m = c.args.prims.now in
    let n = c.remove_all.new.prims in
    let path = c.args.path.now in
    let without : IsWithout m c.in_ok-keys.keys.items n = subst (λ (ps : List DepthKey). IsWithout m ps n) c.deref.ensures.value c.remove_all.ensures in
    removed (layer_in m) (layer_in n) path
    (there_found (layer_in m) path c.in_ok-find.field-0 c.in_ok-find.ensures.prim ∙ c.is_none.ensures ∙ ap not c.if-is_none.false)
    (without_layer m n path c.in_ok-keys.keys.items c.requires.index.sound c.in_ok-keys.ensures without)
