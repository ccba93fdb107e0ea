use Rattle.std.proofs.Common.{◌≡◌, ℕ, ◌+◌, ◌-◌, ◌<◌, List, length, map, Some, refl, ◌∙◌, ap, subst, arith}
use Rattle.std.proofs.lemmas.List.{length-map}
use Rattle.std.specs.Prelude.{slice_get, IfOk}
use Rattle.std.specs.BTreeSet.{contains}
use Rattle.hd_path.specs.Names.{byte_order}
use Rattle.hd_scene.specs.Scenes.{Scene}
use Rattle.hd_merging.proofs.Places.{at_place}
use Rattle.hd_merging.proofs.Naming.{no_names, names_further, names_of_merged}
use Rattle.hd_merging.proofs.queries.names_below.Goals as goal

pub loop-i-init : goal.loop-i-init
loop-i-init g c =
    let ss : List Scene = map g.I.SceneIndex.scene c.args.inputs.now in
    record {
      in_range = omega arith;
      in_step = c.requires;
      same_scenes = refl;
      same_origins = refl;
      there = no_names ss (length c.args.inputs.now) c.args.path.now c.new-names.result (omega (arith, length-map c.args.inputs.now g.I.SceneIndex.scene)) c.new-names.ensures.empty;
    }

pub loop-i-preserved : goal.loop-i-preserved
loop-i-preserved g c =
    let scene = g.I.SceneIndex.scene in
    let ss : List Scene = map scene c.args.inputs.now in
    let i : ℕ = c.loop-i.i - 1 in
    let next : c.loop-i.i ≡ i + 1 = omega arith in
    let in_range : i < length (map scene c.loop-i.inputs) = omega (arith, length-map c.loop-i.inputs scene) in
    let here : (s : Scene) × (slice_get (map scene c.loop-i.inputs) i ≡ Some s) = at_place (map scene c.loop-i.inputs) i in_range in
    let here_first : slice_get ss i ≡ Some here.0 = subst (λ (z : List Scene). slice_get z i ≡ Some here.0) c.loop-i.invariant.same_scenes here.1 in
    record {
      in_range = omega (arith, ap length c.names_of_input.ensures.same_scenes, length-map c.names_of_input.new.inputs scene, length-map c.loop-i.inputs scene);
      in_step = c.names_of_input.ensures.in_step;
      same_scenes = c.names_of_input.ensures.same_scenes ∙ c.loop-i.invariant.same_scenes;
      same_origins = c.names_of_input.ensures.same_origins ∙ c.loop-i.invariant.same_origins;
      there = names_further ss i c.loop-i.i here.0 c.args.path.now c.in_ok-more.more (contains byte_order c.loop-i.names) (contains byte_order c.add_names.new.names) next here_first (c.in_ok-more.ensures.value here.0 here.1) c.in_ok-add_names.ensures c.loop-i.invariant.there;
    }

pub returns-clause-value : goal.returns-clause-value
returns-clause-value g c =
    let ss : List Scene = map g.I.SceneIndex.scene c.args.inputs.now in
    subst (λ (all : List (List ℕ)). IfOk c.of.result (λ names. names ≡ all))
    (c.in_ok-in_order.ensures.all ∙ names_of_merged ss c.loop-i.i c.args.path.now c.loop-i.names (omega arith) c.in_ok-in_order.ensures.ordered c.loop-i.invariant.there) c.of.ensures
