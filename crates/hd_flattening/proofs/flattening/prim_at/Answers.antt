use Rattle.std.proofs.Common.{◌≡◌, Some, None, sym, ap, subst, ◌∙◌}
use Rattle.std.proofs.lemmas.Result.{IfOk-weaker}
use Rattle.std.specs.Prelude.{IfOk}
use Rattle.std.specs.FinMap.{get}
use Rattle.hd_path.specs.Paths.{Path}
use Rattle.hd_scene.specs.Scenes.{Scene, prim_of}
use Rattle.hd_scene.specs.declared.prims.Primitive.{Primitive}
use Rattle.hd_flattening.specs.Flat.{ancestors}
use Rattle.hd_flattening.proofs.Walking.{flat_there, flat_absent}
use Rattle.hd_flattening.proofs.flattening.prim_at.Goals as goal

pub flat_prim-requires : goal.flat_prim-requires
flat_prim-requires g c =
    let scene : Scene = g.I.SceneIndex.scene c.args.input.now in
    let path : Path = c.args.path.now in
    let asked : c.in_ok-prim.prim ≡ prim_of (get scene path) = c.in_ok-prim.ensures.value ∙ ap (λ (s : Scene). prim_of (get s path)) c.inherited_at.ensures.same_scene in
    let there : get scene path ≡ Some c.in-Some.entry = sym (c.into_entry.ensures (get scene path) asked) ∙ c.in-Some.is in
    c.requires.conforms path c.in-Some.entry there

pub returns-in-Some-clause-value : goal.returns-in-Some-clause-value
returns-in-Some-clause-value g c =
    let scene : Scene = g.I.SceneIndex.scene c.args.input.now in
    let path : Path = c.args.path.now in
    let asked : c.in_ok-prim.prim ≡ prim_of (get scene path) = c.in_ok-prim.ensures.value ∙ ap (λ (s : Scene). prim_of (get s path)) c.inherited_at.ensures.same_scene in
    let there : get scene path ≡ Some c.in-Some.entry = sym (c.into_entry.ensures (get scene path) asked) ∙ c.in-Some.is in
    IfOk-weaker c.flat_prim.result _ _ (λ p f. f (ancestors scene path) c.in_ok-inherited.ensures.value ∙ flat_there scene path c.in-Some.entry there) c.flat_prim.ensures

pub returns-clause-value : goal.returns-clause-value
returns-clause-value g c =
    let scene : Scene = g.I.SceneIndex.scene c.args.input.now in
    let path : Path = c.args.path.now in
    let asked : c.in_ok-prim.prim ≡ prim_of (get scene path) = c.in_ok-prim.ensures.value ∙ ap (λ (s : Scene). prim_of (get s path)) c.inherited_at.ensures.same_scene in
    let absent : get scene path ≡ None = sym (c.into_entry.ensures (get scene path) asked) ∙ c.in-None.is in
    subst (λ (p : Primitive). IfOk c.absent.result (λ prim. prim ≡ p)) (flat_absent scene path absent) c.absent.ensures
