use Rattle.std.proofs.Common.{◌≡◌, ℕ, ◌+◌, ◌-◌, ◌<◌, List, length, map, Option, Some, ◌∙◌, ap, subst, arith}
use Rattle.std.proofs.lemmas.List.{length-map}
use Rattle.std.specs.Prelude.{slice_get, IfOk}
use Rattle.std.specs.FinMap.{get}
use Rattle.hd_scene.specs.Scenes.{Scene, prim_of}
use Rattle.hd_scene.specs.declared.prims.Entry.{Entry}
use Rattle.hd_merging.proofs.Places.{at_place, prim_further, prim_of_merged}
use Rattle.hd_merging.proofs.queries.prim_of_all.Goals as goal

pub loop-i-preserved : goal.loop-i-preserved
loop-i-preserved g c =
    let scene = g.I.SceneIndex.scene in
    let ss : List Scene = map scene c.args.inputs.now in
    let i : ℕ = c.loop-i.i - 1 in
    let next : c.loop-i.i ≡ i + 1 = omega arith in
    let in_range : i < length (map scene c.loop-i.inputs) = omega (arith, length-map c.loop-i.inputs scene) in
    let here : (s : Scene) × (slice_get (map scene c.loop-i.inputs) i ≡ Some s) = at_place (map scene c.loop-i.inputs) i in_range in
    let here_first : slice_get ss i ≡ Some here.0 = subst (λ (z : List Scene). slice_get z i ≡ Some here.0) c.loop-i.invariant.same_scenes here.1 in
    record {
      in_range = omega (arith, ap length c.prim_of_input.ensures.same_scenes, length-map c.prim_of_input.new.inputs scene, length-map c.loop-i.inputs scene);
      in_step = c.prim_of_input.ensures.in_step;
      same_scenes = c.prim_of_input.ensures.same_scenes ∙ c.loop-i.invariant.same_scenes;
      same_origins = c.prim_of_input.ensures.same_origins ∙ c.loop-i.invariant.same_origins;
      value = prim_further ss i c.loop-i.i here.0 c.args.path.now c.into_entry.result c.loop-i.there c.in_ok-there.there next here_first
          (c.into_entry.ensures (get here.0 c.args.path.now) (c.in_ok-prim.ensures.value here.0 here.1)) c.in_ok-there.ensures c.loop-i.invariant.value;
    }

pub returns-clause-value : goal.returns-clause-value
returns-clause-value g c =
    let ss : List Scene = map g.I.SceneIndex.scene c.args.inputs.now in
    subst (λ (o : Option Entry). IfOk c.of.result (λ prim. prim ≡ prim_of o)) (prim_of_merged ss c.loop-i.i c.args.path.now c.loop-i.there (omega arith) c.loop-i.invariant.value) c.of.ensures
