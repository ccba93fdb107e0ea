use Rattle.std.proofs.Common.{◌≡◌, List, IfOk, ◌∙◌, ap, subst}
use Rattle.hd_scene.specs.Scenes.{Scene, children_of}
use Rattle.hd_retained.specs.Edits.{State}
use Rattle.hd_instancing.specs.Instanced.{instanced_scene}
use Rattle.hd_flattening.specs.Flattened.{flattened_scene}
use Rattle.hd_stack.specs.Stacks.{Stacked, terminal_scene}
use Rattle.hd_stack.proofs.Layered.{terminal_in_step, same_scene}
use Rattle.hd_stack.proofs.stack.StackSceneIndex.children.Goals as goal

pub children-requires : goal.children-requires
children-requires c = terminal_in_step c.self.inside.terminal.input c.self.invariant

pub returns-clause-value : goal.returns-clause-value
returns-clause-value c =
    let inputs : List State = c.self.inside.terminal.input.input.inputs in
    subst (λ (scene : Scene). IfOk c.children.result (λ names. names ≡ children_of scene c.args.path.now))
    (ap (λ (scene : Scene). flattened_scene (instanced_scene scene)) (same_scene inputs) ∙ ap (λ (s : Stacked). terminal_scene s.layers) c.self.view_is)
    c.children.ensures.value
