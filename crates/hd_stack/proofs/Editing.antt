-- An edit of one input among others.
use Rattle.std.proofs.Common.{◌≡◌, inl, inr, ℕ, List, Some, Result, Ok, Err, sym, ◌∙◌, ap, subst}
use Rattle.std.proofs.lemmas.Option.{get_or_from_slice_get}
use Rattle.std.proofs.Math.Seq.{map-set_same}
use Rattle.std.specs.Prelude.{slice_get, slice_set, IfErr, OnErr, IsErrAnd}
use Rattle.hd_layer.specs.declared.edit.Edit.{Edit}
use Rattle.hd_retained.specs.Edits.{State, edit_layer, IsRefusal}
use Rattle.hd_retained.specs.Layers.{Layer}
use Rattle.hd_retained.specs.declared.fault.EditFault.{EditFault}
use Rattle.hd_stack.specs.Stacks.{with_layer, edited_at}
use Rattle.hd_stack.specs.inner.Terminals.{layers_of}
use Rattle.hd_stack.proofs.Layered.{input_layer, layers_set}

-- what the edit of the one layer answers
at_input : (inputs : List State) (k : ℕ) (r : State) (edit : Edit) → slice_get inputs k ≡ Some r → edited_at (layers_of inputs) k edit ≡ with_layer (layers_of inputs) k (edit_layer r.layer edit)
at_input inputs k r edit is = ap (λ (layer : Layer). with_layer (layers_of inputs) k (edit_layer layer edit)) (input_layer inputs k r is)

pub edit_done : (inputs : List State) (k : ℕ) (r s : State) (edit : Edit) → slice_get inputs k ≡ Some r → edit_layer r.layer edit ≡ Ok s.layer → edited_at (layers_of inputs) k edit ≡ Ok (layers_of (slice_set inputs k s))
edit_done inputs k r s edit is done =
    at_input inputs k r edit is ∙ ap (with_layer (layers_of inputs) k) done ∙ ap (λ (layers : List Layer). Ok layers) (sym (layers_set inputs k s))

pub edit_refused : (inputs : List State) (k : ℕ) (r : State) (edit : Edit) (fault : EditFault) → slice_get inputs k ≡ Some r → IsRefusal (edit_layer r.layer edit) fault → IsRefusal (edited_at (layers_of inputs) k edit) fault
edit_refused inputs k r edit fault is refused = elim refused [
  | inl none ↦ inl none
  | inr own ↦ inr (at_input inputs k r edit is ∙ ap (with_layer (layers_of inputs) k) own)
]

pub edit_kept : (inputs : List State) (k : ℕ) (r s : State) → slice_get inputs k ≡ Some r → s ≡ r → layers_of (slice_set inputs k s) ≡ layers_of inputs
edit_kept inputs k r s is same = map-set_same (λ (t : State). t.layer) inputs k s r (ap (λ (t : State). t.layer) (same ∙ sym (get_or_from_slice_get inputs k r r is)))

-- a fault that is handed on
pub handed_on : (r : Result (Unit {0}) EditFault) (fault : EditFault) (expected : Result (List Layer) EditFault) → IsErrAnd r (λ f. f ≡ fault) → IsRefusal expected fault → IfErr r (IsRefusal expected)
handed_on (Ok u) fault expected is h = tt
handed_on (Err e) fault expected is h = subst (IsRefusal expected) (sym is) h

pub whatever_came : {P : Type 0} (r : Result (Unit {0}) EditFault) → P → OnErr r P
whatever_came (Ok u) h = tt
whatever_came (Err e) h = h
