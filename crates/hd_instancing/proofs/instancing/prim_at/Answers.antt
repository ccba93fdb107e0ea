use Rattle.std.proofs.Common.{Bool, List, ◌∙◌, ap}
use Rattle.std.proofs.lemmas.Result.{IfOk-weaker}
use Rattle.hd_path.specs.Paths.{Path}
use Rattle.hd_value.specs.Maps.{Map}
use Rattle.hd_scene.specs.Scenes.{Scene}
use Rattle.hd_instancing.specs.Targets.{is_root, instanced_by}
use Rattle.hd_instancing.specs.Instanced.{instanced_primitive}
use Rattle.hd_instancing.proofs.Prefixed.{root_test}
use Rattle.hd_instancing.proofs.Marked.{prim_conforms, instanced_primitive-prim_of}
use Rattle.hd_instancing.proofs.instancing.prim_at.Goals as goal

pub instanced_prim-requires : goal.instanced_prim-requires
instanced_prim-requires g c = λ (values : Map) there. prim_conforms (g.I.SceneIndex.scene c.args.input.now) c.args.path.now c.in_ok-prim.prim values c.requires.conforms c.in_ok-prim.ensures.value there

pub returns-clause-value : goal.returns-clause-value
returns-clause-value g c =
    let scene : Scene = g.I.SceneIndex.scene c.args.input.now in
    let path : Path = c.args.path.now in
    let own : List Path = c.in_ok-listed_instancers.field-0 in
    IfOk-weaker c.instanced_prim.result _ _ (λ p h holds.
    h
    ∙ ap (λ (b : Bool). instanced_primitive b c.in_ok-instancers.instancers c.in_ok-prim.prim) (root_test scene path own c.args.table.now c.is_empty-is_root.result c.in_ok-listed_instancers.ensures holds c.is_empty-is_root.ensures)
    ∙ ap (λ (is : List Path). instanced_primitive (is_root scene path) is c.in_ok-prim.prim) (c.in_ok-instancers.ensures scene holds)
    ∙ ap (instanced_primitive (is_root scene path) (instanced_by scene path)) c.in_ok-prim.ensures.value
    ∙ instanced_primitive-prim_of scene path) c.instanced_prim.ensures
