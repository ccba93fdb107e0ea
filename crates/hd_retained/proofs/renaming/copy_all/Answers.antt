use Rattle.std.proofs.Common.{get_or, sym, ◌∙◌, ap, arith}
use Rattle.hd_retained.specs.declared.stored.DepthKey.{DepthKey}
use Rattle.hd_retained.specs.Layers.{Layer}
use Rattle.hd_retained.specs.inner.Indexed.{layer_in, with_copy}
use Rattle.hd_retained.proofs.Copies.{copies_more}
use Rattle.hd_retained.proofs.renaming.copy_all.Goals as goal

pub loop-i-preserved : goal.loop-i-preserved
loop-i-preserved c =
    let layer = layer_in c.loop-i.prims in
    let key = c.index-keys-i.result in
    let other = c.index-others-i.result in
    record {
      sound = c.in_ok-copy_prim.ensures.sound;
      copied =
          c.in_ok-copy_prim.ensures.ok
          ∙ ap (λ (p : DepthKey). with_copy layer p.path (get_or c.args.others.now c.loop-i.i other).path) (sym c.index-keys-i.is)
          ∙ ap (λ (p : DepthKey). with_copy layer key.path p.path) (sym c.index-others-i.is)
          ∙ ap (λ (l : Layer). with_copy l key.path other.path) c.loop-i.invariant.copied
          ∙ copies_more (layer_in c.args.prims.now) c.args.keys.now c.args.others.now c.loop-i.i key other c.requires.as_many c.loop-i-test.true (omega arith) c.index-keys-i.is c.index-others-i.is;
    }
