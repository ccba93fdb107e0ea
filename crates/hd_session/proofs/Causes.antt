-- The causes for which steps are refused.
use Rattle.std.proofs.Common.{◌≡◌, ℕ, length, Bool, true, false, not, if◌then◌else◌, List, Option, Some, None, Result, Ok, Err, refl, subst}
use Rattle.std.specs.Prelude.{nat_lt}
use Rattle.std.specs.List.{list_any}
use Rattle.std.specs.FinMap.{get, contains_key, keys}
use Rattle.hd_path.specs.Paths.{is_prefix}
use Rattle.hd_layer.specs.declared.edit.Edit.{Edit}
use Rattle.hd_layer.specs.declared.edit.Edit.TheVariants.{Define, Set, Clear, Remove, Rename}
use Rattle.hd_script.specs.declared.command.Command as commands
use Rattle.hd_script.specs.declared.command.Command.TheVariants as command
use Rattle.hd_retained.specs.declared.fault.EditFault.{EditFault}
use Rattle.hd_retained.specs.Layers.{LayerPrim, Layer}
use Rattle.hd_retained.specs.Edits.{has_parent, is_full_for, change_prim, with_value, without_value, is_moved_too_deep, edit_layer}
use Rattle.hd_stack.specs.Stacks.{layer_at, with_layer, edited_at}
use Rattle.hd_session.specs.Laws.{is_own_cause, StepsHaveOwnCauses}
use Rattle.hd_session.specs.declared.refusal.Refusal.{Refusal}
use Rattle.hd_session.specs.States.{State}
use Rattle.hd_session.specs.Steps.{edit_refusal, change_layers, step}

-- where an edit is refused, its step has such a cause
abbrev IsOwn : {T : Type 0} → Result T EditFault → Type 0
IsOwn (Ok done) = Unit {0}
IsOwn (Err why) = is_own_cause (edit_refusal why) ≡ true

either : (b : Bool) (x y : Result Layer EditFault) → IsOwn x → IsOwn y → IsOwn (if b then x else y)
either true x y own other = own
either false x y own other = other

changed_own : (change : LayerPrim → LayerPrim) (layer : Layer) (path : List (List ℕ)) (there : Option LayerPrim) → IsOwn (change_prim change layer path there)
changed_own change layer path None = refl
changed_own change layer path (Some p) = tt

edited_own : (layer : Layer) (edit : Edit) → IsOwn (edit_layer layer edit)
edited_own layer (Define kind path) = either (not (has_parent layer path)) _ _ refl (either (is_full_for layer path) _ _ refl tt)
edited_own layer (Set path (Some property)) = changed_own (with_value property) layer path (get layer path)
edited_own layer (Set path None) = either (contains_key layer path) _ _ tt refl
edited_own layer (Clear path name) = changed_own (without_value name) layer path (get layer path)
edited_own layer (Remove path) = either (contains_key layer path) _ _ tt refl
edited_own layer (Rename from to) =
    either (not (contains_key layer from)) _ _ refl
    (either (is_prefix from to) _ _ refl
    (either (not (has_parent layer to)) _ _ refl
    (either (contains_key layer to) _ _ refl
    (either (list_any (is_moved_too_deep from to) (keys layer)) _ _ refl tt))))

placed_own : (layers : List Layer) (number : ℕ) (done : Result Layer EditFault) → IsOwn done → IsOwn (with_layer layers number done)
placed_own layers number (Ok layer) own = tt
placed_own layers number (Err why) own = own

-- the causes of what comes after a step
abbrev HasOwn : Result State Refusal → Type 0
HasOwn (Ok state) = Unit {0}
HasOwn (Err why) = is_own_cause why ≡ true

change_own : (s : State) (done : Result (List Layer) EditFault) → IsOwn done → HasOwn (change_layers s done)
change_own s (Ok layers) own = tt
change_own s (Err why) own = own

chosen_own : (b : Bool) (x y : Result State Refusal) → HasOwn x → HasOwn y → HasOwn (if b then x else y)
chosen_own true x y own other = own
chosen_own false x y own other = other

step_own : (s : State) (given : commands.Command) (tiles : List ℕ) → HasOwn (step s given tiles).after
step_own s (command.Layer number) tiles = chosen_own (nat_lt number (length s.layers)) _ _ tt refl
step_own s (command.Edit edit) tiles = change_own s (edited_at s.layers s.current edit) (placed_own s.layers s.current (edit_layer (layer_at s.layers s.current) edit) (edited_own (layer_at s.layers s.current) edit))
step_own s command.Commit tiles = tt
step_own s (command.Dump name) tiles = tt
step_own s command.Report tiles = refl
step_own s (command.Start name width height camera) tiles = refl
step_own s (command.Tiles count) tiles = refl
step_own s command.Pause tiles = refl
step_own s command.Resume tiles = refl
step_own s command.Stop tiles = refl
step_own s command.Wait tiles = refl

pub have_own_causes : StepsHaveOwnCauses
have_own_causes s given tiles why is = subst HasOwn is (step_own s given tiles)
