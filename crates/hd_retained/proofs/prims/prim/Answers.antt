use Rattle.std.proofs.Common.{◌≡◌, Option, Some, None, option_copied, sym, ◌∙◌, ap, subst}
use Rattle.std.specs.Prelude.{IfOk}
use Rattle.std.specs.FinMap.{get}
use Rattle.std.specs.Option.{option_map}
use Rattle.hd_scene.specs.Scenes as scene
use Rattle.hd_scene.specs.declared.prims.Entry.{Entry}
use Rattle.hd_retained.specs.Layers.{entry_of}
use Rattle.hd_retained.specs.inner.Indexed.{prim_of, layer_in}
use Rattle.hd_retained.proofs.Kept.{get-scene, prim_there}
use Rattle.hd_retained.proofs.prims.prim.Goals as goal

pub returns-in_ok-entry-in-Some : goal.returns-in_ok-entry-in-Some
returns-in_ok-entry-in-Some c =
    let layer = layer_in c.args.prims.now in
    let path = c.args.path.now in
    let there : get layer path ≡ Some (prim_of c.in-Some.stored.now) = prim_there layer path c.in_ok-stored.field-0 c.in-Some.stored c.in_ok-stored.ensures.prim c.in-Some.is in
    subst (λ (o : Option Entry). IfOk c.of.result (λ prim. prim ≡ scene.prim_of o))
    (ap (λ (e : Entry). Some e) c.in_ok-entry-in-Some.ensures ∙ sym (get-scene layer path ∙ ap (option_map entry_of) there))
    c.of.ensures

pub returns-in-None : goal.returns-in-None
returns-in-None c =
    let layer = layer_in c.args.prims.now in
    let path = c.args.path.now in
    let there : get layer path ≡ None = sym c.in_ok-stored.ensures.prim ∙ ap (λ o. option_map prim_of (option_copied o)) c.in-None.is in
    subst (λ (o : Option Entry). IfOk c.absent.result (λ prim. prim ≡ scene.prim_of o)) (sym (get-scene layer path ∙ ap (option_map entry_of) there)) c.absent.ensures
