use Rattle.std.proofs.Common.{◌≡◌, option_copied}
use Rattle.hd_scene.specs.Scenes.{kind_at}
use Rattle.hd_stack.specs.Stacks.{composed_scene}
use Rattle.hd_stack.specs.inner.Kinds.{kind_over}
use Rattle.hd_stack.specs.inner.Terminals.{layers_of}
use Rattle.hd_stack.proofs.KindsOf.{kind_from}
use Rattle.hd_stack.proofs.stack.kind_of.Given as goal

abbrev pub invariant-loop-k : goal.invariant-loop-k
invariant-loop-k l = kind_at (composed_scene (layers_of l.inputs.inputs)) l.path ≡ kind_over (option_copied l.found) (kind_from l.inputs.inputs l.k l.path)
