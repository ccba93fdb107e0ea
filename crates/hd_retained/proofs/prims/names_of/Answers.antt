use Rattle.std.proofs.Common.{List, ℕ, ◌++◌, ◌∷◌, [], filter_map, ◌∙◌, ap}
use Rattle.hd_scene.specs.Scenes.{child_name}
use Rattle.hd_retained.proofs.Gathering.{names_more}
use Rattle.hd_retained.proofs.prims.names_of.Goals as goal

pub loop-key-preserved : goal.loop-key-preserved
loop-key-preserved c =
    c.in_ok-add_name.ensures
    ∙ ap (λ (xs : List (List ℕ)). xs ++ filter_map (child_name c.args.parent.now) (c.key-item.result.path ∷ [])) c.loop-key.invariant
    ∙ names_more c.args.parent.now c.args.keys.now c.loop-key.key-index c.key-item.result c.loop-key-test.true c.key-item.is
