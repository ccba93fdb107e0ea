use Rattle.hd_instancing.specs.Instanced.{instanced_scene}
use Rattle.hd_instancing.proofs.Marked.{conforms}
use Rattle.hd_flattening.proofs.FlatSchema.{flattened_conforms}
use Rattle.hd_stack.specs.Stacks.{composed_scene}
use Rattle.hd_stack.proofs.Layered.{composed_conforms}
use Rattle.hd_stack.proofs.laws.scenes_have_flat_values.Goals as goal

pub returns : goal.returns
returns c = λ layers sound. flattened_conforms (instanced_scene (composed_scene layers)) (conforms (composed_scene layers) (composed_conforms layers sound))
