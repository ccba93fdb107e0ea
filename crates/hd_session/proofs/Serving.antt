-- What a part of a session answers makes the refusal of its command.
use Rattle.std.proofs.Common.{◌≡◌, ℕ, List, [], ◌∷◌, length, Result, Err, refl, sym, ap, subst, inl, inr}
use Rattle.hd_layer.specs.declared.edit.Edit.{Edit}
use Rattle.hd_io.specs.declared.fault.OutsideFault.{OutsideFault}
use Rattle.hd_io.specs.declared.fault.OutsideFault.TheVariants as outside_fault
use Rattle.hd_io.specs.Acts.{Outside, file, line, Wrote, WroteCut, NoFault, WriteCause}
use Rattle.hd_io.specs.Causes.{HasCause}
use Rattle.hd_io.specs.Rack.{RackState}
use Rattle.hd_io.specs.Sink.{SinkState}
use Rattle.hd_io.specs.Writing.{CutLine}
use Rattle.hd_io.proofs.Cuts.{adds_nothing, none_written, only_line_cut}
use Rattle.hd_script.specs.declared.command.Command as commands
use Rattle.hd_script.specs.declared.command.Command.TheVariants as command
use Rattle.hd_scene.specs.Scenes.{Scene, saturating_succ}
use Rattle.hd_rprim.specs.PrimRows.{rows_of}
use Rattle.hd_rprim.specs.Shown.{ShownRow}
use Rattle.hd_attributes.specs.Rows.{index}
use Rattle.hd_dump.specs.Dumps.{dump_text}
use Rattle.hd_retained.specs.declared.fault.EditFault.{EditFault}
use Rattle.hd_retained.specs.declared.fault.EditFault.TheVariants as edit_fault
use Rattle.hd_retained.specs.Edits.{IsRefusal}
use Rattle.hd_retained.specs.Layers.{Layer}
use Rattle.hd_stack.specs.Stacks.{edited_at}
use Rattle.hd_session.specs.declared.refusal.Refusal.{Refusal}
use Rattle.hd_session.specs.declared.refusal.Refusal.TheVariants.{NoMemory}
use Rattle.hd_session.specs.States.{State}
use Rattle.hd_session.specs.Steps.{Step, silent, edit_refusal, change_layers, commit_line, dump_line, dump, step}
use Rattle.hd_session.specs.Answers.{Ends, Refuses, write_refusal}

-- nothing was written, and nothing failed
pub wrote_nothing : (o : Outside) → Wrote [] o o
wrote_nothing o = record { added = adds_nothing o; is_open = refl }

pub no_fault : (o : Outside) → NoFault o o
no_fault o = record { rack = refl; sink = refl }

-- a step that was not done, since memory ran out before its first act
pub without_memory : (step : Step Refusal) (o : Outside) → Refuses step o o NoMemory
without_memory step o = (none_written step.acts o, no_fault o)

-- a silent step that ends so
silent_ends : (after : Result State Refusal) (why : Refusal) (o : Outside) → after ≡ Err why → Ends (silent after []) (Err why) o o
silent_ends after why o is = record { is = is; written = wrote_nothing o; faults = no_fault o }

not_changed : (s : State) (expected : Result (List Layer) EditFault) (fault : EditFault) (o : Outside) → IsRefusal expected fault → Refuses (silent (change_layers s expected) []) o o (edit_refusal fault)
not_changed s expected edit_fault.NoMemory o why = without_memory (silent (change_layers s expected) []) o
not_changed s expected edit_fault.NoPrim o (inl wrong) = cc
not_changed s expected edit_fault.NoPrim o (inr is) = silent_ends (change_layers s expected) _ o (ap (change_layers s) is)
not_changed s expected edit_fault.PrimThere o (inl wrong) = cc
not_changed s expected edit_fault.PrimThere o (inr is) = silent_ends (change_layers s expected) _ o (ap (change_layers s) is)
not_changed s expected edit_fault.UnderItself o (inl wrong) = cc
not_changed s expected edit_fault.UnderItself o (inr is) = silent_ends (change_layers s expected) _ o (ap (change_layers s) is)
not_changed s expected (edit_fault.Limit which) o (inl wrong) = cc
not_changed s expected (edit_fault.Limit which) o (inr is) = silent_ends (change_layers s expected) _ o (ap (change_layers s) is)

-- a refusal of a step is one of the step of the same state and command
same_step : (s state : State) (given same : commands.Command) (before now : Outside) (why : Refusal) → state ≡ s → given ≡ same → Refuses (step state same []) before now why → Refuses (step s given []) before now why
same_step s state given same before now why is is_given refused =
    let P : State → Type 0 = λ x. Refuses (step x given []) before now why in
    let Q : commands.Command → Type 0 = λ x. Refuses (step state x []) before now why in
    subst P is (subst Q (sym is_given) refused)

pub edit_refused : (s state : State) (given : commands.Command) (edit : Edit) (fault : EditFault) (o : Outside) → state ≡ s → given ≡ command.Edit edit → IsRefusal (edited_at state.layers state.current edit) fault
    → Refuses (step s given []) o o (edit_refusal fault)
edit_refused s state given edit fault o same is why =
    same_step s state given (command.Edit edit) o o (edit_refusal fault) same is (not_changed state (edited_at state.layers state.current edit) fault o why)

-- the line of the next commit
abbrev pub next_line : State → List ShownRow → List ℕ
next_line s rows = commit_line (saturating_succ s.commits) (length rows)

not_committed : {T : Type 0} (s : State) (rack : RackState) (before now : SinkState) (fault : OutsideFault) → CutLine (next_line s (index s.layers)) before.text now.text → HasCause {T = T} before.faults now.faults (Err fault)
    → Refuses (step s command.Commit []) (record { rack = rack; sink = before }) (record { rack = rack; sink = now }) (write_refusal fault)
not_committed s rack before now outside_fault.Failed cut cause = (only_line_cut _ rack before now cut, inr (cause.failed refl))
not_committed s rack before now outside_fault.NoMemory cut cause = (only_line_cut _ rack before now cut, record { rack = refl; sink = cause.refused refl })

pub commit_refused : {T : Type 0} (s state : State) (given : commands.Command) (scene : Scene) (rack : RackState) (before now : SinkState) (fault : OutsideFault)
    → state ≡ s → given ≡ command.Commit → rows_of scene ≡ index state.layers → CutLine (next_line state (rows_of scene)) before.text now.text → HasCause {T = T} before.faults now.faults (Err fault)
    → Refuses (step s given []) (record { rack = rack; sink = before }) (record { rack = rack; sink = now }) (write_refusal fault)
commit_refused s state given scene rack before now fault same is shown cut cause =
    let P : List ShownRow → Type 0 = λ x. CutLine (next_line state x) before.text now.text in
    same_step s state given command.Commit (record { rack = rack; sink = before }) (record { rack = rack; sink = now }) (write_refusal fault) same is
    (not_committed state rack before now fault (subst P shown cut) cause)

not_dumped : (s : State) (name : List ℕ) (before now : Outside) (fault : OutsideFault) → WroteCut (dump s name) before now → WriteCause before now fault → Refuses (step s (command.Dump name) []) before now (write_refusal fault)
not_dumped s name before now outside_fault.Failed cut cause = (cut, cause)
not_dumped s name before now outside_fault.NoMemory cut cause = (cut, cause)

pub dump_refused : (s state : State) (given : commands.Command) (name : List ℕ) (scene : Scene) (before now : Outside) (fault : OutsideFault)
    → state ≡ s → given ≡ command.Dump name → rows_of scene ≡ index state.committed → WroteCut (file name (dump_text (rows_of scene)) ∷ line (dump_line name) ∷ []) before now → WriteCause before now fault
    → Refuses (step s given []) before now (write_refusal fault)
dump_refused s state given name scene before now fault same is shown cut cause =
    let P : List ShownRow → Type 0 = λ x. WroteCut (file name (dump_text x) ∷ line (dump_line name) ∷ []) before now in
    same_step s state given (command.Dump name) before now (write_refusal fault) same is (not_dumped state name before now fault (subst P shown cut) cause)
