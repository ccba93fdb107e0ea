use Rattle.std.proofs.Common.{◌≡◌, List, take, map, sym, ◌∙◌, ap, subst}
use Rattle.std.proofs.lemmas.List.{take_all}
use Rattle.std.specs.FinMap.{insert, from_entries}
use Rattle.hd_path.specs.Paths.{path_cmp}
use Rattle.hd_scene.specs.Scenes.{IsClosed}
use Rattle.hd_retained.specs.declared.stored.DepthKey.{DepthKey}
use Rattle.hd_retained.specs.declared.stored.StoredPrim.{StoredPrim}
use Rattle.hd_retained.specs.Layers.{LayerPrim, Layer, spelled_prim, layer_of, scene_of}
use Rattle.hd_retained.specs.inner.Indexed.{layer_in, prim_of, prim_at}
use Rattle.hd_retained.proofs.Spelled.{ArePaths, layer_from, no_paths, next_paths, empty_sound, next_formed, next_layer, spelled_closed}
use Rattle.hd_retained.proofs.prims.of_layer.Goals as goal

pub loop-spec-init : goal.loop-spec-init
loop-spec-init c = record {
  sound = empty_sound c.new-prims.result c.new-prims.ensures.empty;
  layer = ap (λ (es : List (DepthKey × StoredPrim)). from_entries {R = path_cmp} (map prim_at es)) c.new-prims.ensures.empty;
  paths = no_paths;
}

pub of_spec-requires : goal.of_spec-requires
of_spec-requires c = next_formed c.args.layer.now c.items-spec-items.result.now c.loop-spec.spec-index c.spec-item.result c.requires c.items-spec-items.ensures c.loop-spec-test.true c.spec-item.is

pub loop-spec-preserved : goal.loop-spec-preserved
loop-spec-preserved c = record {
  sound = c.in_ok-put.ensures.sound;
  layer =
      c.in_ok-put.ensures.ok
      ∙ ap (λ (l : Layer). insert l c.spec-item.result.path (prim_of c.in_ok-of_spec.field-0)) c.loop-spec.invariant.layer
      ∙ ap (λ (p : LayerPrim). insert (layer_from (take c.loop-spec.spec-index c.items-spec-items.result.now)) c.spec-item.result.path p) c.in_ok-of_spec.ensures.prim
      ∙ next_layer c.args.layer.now c.items-spec-items.result.now c.loop-spec.spec-index c.spec-item.result c.requires c.items-spec-items.ensures c.loop-spec-test.true c.spec-item.is;
  paths =
      subst ArePaths (next_layer c.args.layer.now c.items-spec-items.result.now c.loop-spec.spec-index c.spec-item.result c.requires c.items-spec-items.ensures c.loop-spec-test.true c.spec-item.is)
      (next_paths (layer_from (take c.loop-spec.spec-index c.items-spec-items.result.now)) c.spec-item.result.path (spelled_prim c.spec-item.result) c.loop-spec.invariant.paths c.is_path.ensures);
}

pub returns-clause-layer : goal.returns-clause-layer
returns-clause-layer c =
    c.loop-spec.invariant.layer ∙ ap layer_from (take_all c.loop-spec.spec-index c.items-spec-items.result.now c.loop-spec-test.false ∙ c.items-spec-items.ensures)

pub returns-clause-index : goal.returns-clause-index
returns-clause-index c =
    let items = take_all c.loop-spec.spec-index c.items-spec-items.result.now c.loop-spec-test.false ∙ c.items-spec-items.ensures in
    let all : layer_in c.loop-spec.prims ≡ layer_of c.args.layer.now = c.loop-spec.invariant.layer ∙ ap layer_from items in
    record {
      sound = c.loop-spec.invariant.sound;
      closed = subst (λ (l : Layer). IsClosed (scene_of l)) (sym all) (spelled_closed c.args.layer.now c.requires (subst ArePaths (ap layer_from items) c.loop-spec.invariant.paths));
    }
