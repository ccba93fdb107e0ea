use Rattle.std.proofs.Math.Seq.{map-set_same}
use Rattle.hd_merging.proofs.queries.names_of_input.Goals as goal

pub returns-clause-same_scenes : goal.returns-clause-same_scenes
returns-clause-same_scenes g c = map-set_same g.I.SceneIndex.scene c.args.inputs.now c.args.i c.children.new.self c.index-inputs-i.result c.children.ensures.same_scene

pub returns-clause-same_origins : goal.returns-clause-same_origins
returns-clause-same_origins g c = map-set_same g.I.SceneIndex.origin c.args.inputs.now c.args.i c.children.new.self c.index-inputs-i.result c.children.ensures.same_origin
