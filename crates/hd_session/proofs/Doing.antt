-- What a part of a session answers makes the end of its command that was done.
use Rattle.std.proofs.Common.{◌≡◌, ℕ, ◌<◌, Bool, true, List, [], ◌∷◌, length, Result, Ok, Err, rules, tests, refl, sym, ap, ◌∙◌, subst, append-nil, if◌then◌else◌}
use Rattle.std.specs.Prelude.{nat_lt}
use Rattle.hd_layer.specs.declared.edit.Edit.{Edit}
use Rattle.hd_io.specs.Acts.{Outside, file, line, Wrote, NoFault}
use Rattle.hd_io.specs.Rack.{RackState}
use Rattle.hd_io.specs.Sink.{SinkState}
use Rattle.hd_io.specs.Writing.{with_line}
use Rattle.hd_io.proofs.Cuts.{nothing_added}
use Rattle.hd_script.specs.declared.command.Command as commands
use Rattle.hd_script.specs.declared.command.Command.TheVariants as command
use Rattle.hd_scene.specs.Scenes.{Scene, saturating_succ}
use Rattle.hd_rprim.specs.PrimRows.{rows_of}
use Rattle.hd_rprim.specs.Shown.{ShownRow}
use Rattle.hd_attributes.specs.Rows.{index}
use Rattle.hd_dump.specs.Dumps.{dump_text}
use Rattle.hd_retained.specs.Layers.{Layer}
use Rattle.hd_stack.specs.Stacks.{edited_at}
use Rattle.hd_session.specs.declared.refusal.Refusal.{Refusal}
use Rattle.hd_session.specs.declared.refusal.Refusal.TheVariants.{Script}
use Rattle.hd_session.specs.declared.refusal.ScriptWhy.TheVariants.{NoLayer}
use Rattle.hd_session.specs.States.{State}
use Rattle.hd_session.specs.Steps.{silent, choose_layer, change_layers, dump_line, step}
use Rattle.hd_session.specs.Answers.{Does}
use Rattle.hd_session.proofs.Serving.{wrote_nothing, no_fault, next_line}

-- the end of a step is one of the step of the same state and command
same_end : (s state : State) (given same : commands.Command) (after : State) (before now : Outside) → state ≡ s → given ≡ same → Does (step state same []) after before now → Does (step s given []) after before now
same_end s state given same after before now is is_given done =
    let P : State → Type 0 = λ x. Does (step x given []) after before now in
    let Q : commands.Command → Type 0 = λ x. Does (step state x []) after before now in
    subst P is (subst Q (sym is_given) done)

-- a silent step was done
silent_does : (ends : Result State Refusal) (after : State) (o : Outside) → ends ≡ Ok after → Does (silent ends []) after o o
silent_does ends after o is = record { is = is; written = wrote_nothing o; faults = no_fault o }

is_below : (m n : ℕ) → m < n → nat_lt m n ≡ true
is_below m n l = search (rules, tests)

pub layer_done : (s state : State) (given : commands.Command) (number chosen count : ℕ) (o : Outside) → state ≡ s → given ≡ command.Layer number → chosen ≡ number → count ≡ length state.layers → number < count
    → Does (step s given []) (record state { current = chosen }) o o
layer_done s state given number chosen count o same is is_chosen is_count below =
    let there : nat_lt number (length state.layers) ≡ true = is_below number (length state.layers) (subst (λ n. number < n) is_count below) in
    let chose : choose_layer state number ≡ Ok (record state { current = chosen }) =
    ap (λ (b : Bool). if b then Ok (record state { current = number }) else Err (Script NoLayer)) there ∙ ap (λ n. Ok (record state { current = n })) (sym is_chosen) in
    same_end s state given (command.Layer number) _ o o same is (silent_does (choose_layer state number) _ o chose)

pub edit_done : (s state : State) (given : commands.Command) (edit : Edit) (layers : List Layer) (o : Outside) → state ≡ s → given ≡ command.Edit edit → edited_at state.layers state.current edit ≡ Ok layers
    → Does (step s given []) (record state { layers = layers }) o o
edit_done s state given edit layers o same is edited =
    same_end s state given (command.Edit edit) _ o o same is (silent_does (change_layers state (edited_at state.layers state.current edit)) _ o (ap (change_layers state) edited))

-- a line alone was written whole
line_written : (text : List ℕ) (rack : RackState) (before now : SinkState) → now.text ≡ with_line text before.text → Wrote (line text ∷ []) (record { rack = rack; sink = before }) (record { rack = rack; sink = now })
line_written text rack before now told =
    record {
      added = record { files_added = nothing_added rack.files; text_added = told ∙ ap (λ t. with_line t before.text) (sym (append-nil text)) };
      is_open = refl;
    }

pub commit_done : (s state : State) (given : commands.Command) (scene : Scene) (layers committed : List Layer) (commits : ℕ) (rack : RackState) (before now : SinkState)
    → state ≡ s → given ≡ command.Commit → rows_of scene ≡ index state.layers → layers ≡ state.layers → committed ≡ state.layers → commits ≡ saturating_succ state.commits
    → now.text ≡ with_line (next_line state (rows_of scene)) before.text → now.faults ≡ before.faults
    → Does (step s given []) (record { layers = layers; committed = committed; current = state.current; commits = commits }) (record { rack = rack; sink = before }) (record { rack = rack; sink = now })
commit_done s state given scene layers committed commits rack before now same is shown same_layers same_committed counted told kept =
    let after : State = record { layers = layers; committed = committed; current = state.current; commits = commits } in
    let P : List ShownRow → Type 0 = λ x. now.text ≡ with_line (next_line state x) before.text in
    let is_after : after ≡ record { layers = state.layers; committed = state.layers; current = state.current; commits = saturating_succ state.commits } =
    ap (λ (x : List Layer). record { layers = x; committed = committed; current = state.current; commits = commits }) same_layers
    ∙ ap (λ (x : List Layer). record { layers = state.layers; committed = x; current = state.current; commits = commits }) same_committed
    ∙ ap (λ (n : ℕ). record { layers = state.layers; committed = state.layers; current = state.current; commits = n }) counted in
    same_end s state given command.Commit after (record { rack = rack; sink = before }) (record { rack = rack; sink = now }) same is
    (record {
      is = ap (λ (x : State). Ok x) (sym is_after);
      written = line_written (next_line state (index state.layers)) rack before now (subst P shown told);
      faults = record { rack = refl; sink = kept };
    })

pub dump_done : (s state : State) (given : commands.Command) (name : List ℕ) (scene : Scene) (before now : Outside)
    → state ≡ s → given ≡ command.Dump name → rows_of scene ≡ index state.committed → Wrote (file name (dump_text (rows_of scene)) ∷ line (dump_line name) ∷ []) before now → NoFault before now
    → Does (step s given []) state before now
dump_done s state given name scene before now same is shown written kept =
    let P : List ShownRow → Type 0 = λ x. Wrote (file name (dump_text x) ∷ line (dump_line name) ∷ []) before now in
    same_end s state given (command.Dump name) state before now same is (record { is = refl; written = subst P shown written; faults = kept })
