use Rattle.std.proofs.Common.{sym, ◌∙◌, ap}
use Rattle.std.specs.BTreeMap as tree
use Rattle.std.specs.Option.{option_map}
use Rattle.hd_retained.specs.declared.stored.DepthKey.{DepthKey}
use Rattle.hd_retained.specs.inner.Indexed.{depth_key_cmp, prim_of}
use Rattle.hd_retained.proofs.Kept.{get-kept}
use Rattle.hd_retained.proofs.prims.find.Goals as goal

pub returns-clause-prim : goal.returns-clause-prim
returns-clause-prim c =
    ap (option_map prim_of) (c.get.ensures.value ∙ ap (λ (p : DepthKey). tree.get depth_key_cmp c.args.prims.now p) c.in_ok-key.ensures)
    ∙ sym (get-kept c.args.prims.now c.requires c.args.path.now)
