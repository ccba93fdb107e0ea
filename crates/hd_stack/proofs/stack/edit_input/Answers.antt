use Rattle.std.proofs.Common.{◌≤◌, List, sym, subst}
use Rattle.std.specs.FinMap.{len}
use Rattle.hd_layer.specs.declared.limits.Which.TheVariants.{Prims}
use Rattle.hd_layer.specs.Limits.{limit_of}
use Rattle.hd_retained.specs.Edits.{State}
use Rattle.hd_stack.specs.Stacks.{edited_at, IsSound}
use Rattle.hd_stack.specs.inner.Terminals.{layers_of}
use Rattle.hd_stack.proofs.Counted.{few_edited, few_input}
use Rattle.hd_stack.proofs.Layered.{stack_set}
use Rattle.hd_stack.proofs.Editing.{edit_done, edit_refused, edit_kept, handed_on, whatever_came}
use Rattle.hd_stack.proofs.stack.edit_input.Goals as goal

pub returns-in_err-done-clause-stack : goal.returns-in_err-done-clause-stack
returns-in_err-done-clause-stack c =
    let inputs : List State = c.args.merging.now.inputs in
    let before = few_input inputs c.args.layer c.input_mut-input.result.now c.requires.below c.input_mut-input.ensures.value c.requires.stack.sound in
    let few = subst (λ (s : State). len s.layer ≤ limit_of Prims) (sym c.in_err-done.ensures.err) before in
    let own : IsSound c.edit-done.new.self.layer = record { closed = c.is_in_step.ensures; used = c.has_used_properties.ensures; conforms = c.conforms.ensures; few = few } in
    stack_set inputs c.args.layer c.edit-done.new.self own c.requires.stack

pub returns-in_err-done-clause-refusal : goal.returns-in_err-done-clause-refusal
returns-in_err-done-clause-refusal c =
    let inputs : List State = c.args.merging.now.inputs in
    let fault = c.in_err-done.field-0.0 in
    handed_on c.from_residual.result fault (edited_at (layers_of inputs) c.args.layer c.args.edit.now) c.from_residual.ensures.1
    (edit_refused inputs c.args.layer c.input_mut-input.result.now c.args.edit.now fault c.input_mut-input.ensures.value c.in_err-done.ensures.refusal)

pub returns-in_err-done-clause-err : goal.returns-in_err-done-clause-err
returns-in_err-done-clause-err c =
    let inputs : List State = c.args.merging.now.inputs in
    let s : State = c.edit-done.new.self in
    whatever_came c.from_residual.result (edit_kept inputs c.args.layer c.input_mut-input.result.now s c.input_mut-input.ensures.value c.in_err-done.ensures.err)

pub returns-clause-stack : goal.returns-clause-stack
returns-clause-stack c =
    let inputs : List State = c.args.merging.now.inputs in
    let before = few_input inputs c.args.layer c.input_mut-input.result.now c.requires.below c.input_mut-input.ensures.value c.requires.stack.sound in
    let few = few_edited c.input_mut-input.result.now.layer c.edit-done.new.self.layer c.args.edit.now c.in_ok-done.ensures.done before in
    let own : IsSound c.edit-done.new.self.layer = record { closed = c.is_in_step.ensures; used = c.has_used_properties.ensures; conforms = c.conforms.ensures; few = few } in
    stack_set inputs c.args.layer c.edit-done.new.self own c.requires.stack

pub returns-clause-done : goal.returns-clause-done
returns-clause-done c =
    let inputs : List State = c.args.merging.now.inputs in
    edit_done inputs c.args.layer c.input_mut-input.result.now c.edit-done.new.self c.args.edit.now c.input_mut-input.ensures.value c.in_ok-done.ensures.done
