use Rattle.std.proofs.Common.{◌≡◌, map, filter_map, take}
use Rattle.hd_scene.specs.Scenes.{child_name}
use Rattle.hd_retained.proofs.prims.names_of.Given as goal

abbrev pub invariant-loop-key : goal.invariant-loop-key
invariant-loop-key l = l.names.items ≡ filter_map (child_name l.parent) (map (λ key. key.path) (take l.key-index l.keys))
