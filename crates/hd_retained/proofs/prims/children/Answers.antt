use Rattle.std.proofs.Common.{◌≡◌, ℕ, ◌+◌, List, ◌++◌, length, map, filter, ◌∙◌, ap}
use Rattle.std.specs.List.{filter_map}
use Rattle.std.specs.BTreeMap as tree
use Rattle.hd_scene.specs.Scenes.{child_name, children_of}
use Rattle.hd_retained.specs.declared.stored.DepthKey.{DepthKey}
use Rattle.hd_retained.specs.Layers.{scene_of}
use Rattle.hd_retained.specs.inner.Indexed.{is_at_depth, layer_in}
use Rattle.hd_retained.proofs.Gathering.{children_kept, names_are}
use Rattle.hd_retained.proofs.prims.children.Goals as goal

pub returns : goal.returns
returns c =
    let m = c.args.prims.now in
    let path = c.args.path.now in
    let keys : c.deref.result.now ≡ filter (is_at_depth (length path + 1) path) (tree.keys m) =
    c.deref.ensures.value ∙ c.in_ok-add_depth.ensures.added
    ∙ ap (λ (ps : List DepthKey). ps ++ filter (is_at_depth (c.depth.result + 1) path) (tree.keys m)) c.new-keys.ensures.items
    ∙ ap (λ (n : ℕ). filter (is_at_depth (n + 1) path) (tree.keys m)) c.depth.ensures.names in
    names_are c.names_of.result (filter_map (child_name path) (map (λ (p : DepthKey). p.path) c.deref.result.now)) (children_of (scene_of (layer_in m)) path) c.names_of.ensures
    (ap (λ (ps : List DepthKey). filter_map (child_name path) (map (λ (p : DepthKey). p.path) ps)) keys ∙ children_kept m path c.requires c.in_ok-add_depth.ensures.ordered)
