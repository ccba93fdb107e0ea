-- How the lines of a script end it.
use Rattle.std.proofs.Common.{◌≡◌, ◌⊎◌, ℕ, suc, ◌+◌, ◌<◌, ◌≤◌, length, arith, List, [], ◌∷◌, Option, Some, None, Ok, Err, refl, sym, ap, subst, inl, inr}
use Rattle.std.specs.Prelude.{IfSome, Result}
use Rattle.hd_io.specs.Acts.{Act, Outside, Wrote, WroteCut, NoFault}
use Rattle.hd_io.specs.Rack.{RackState}
use Rattle.hd_io.specs.Sink.{SinkState}
use Rattle.hd_io.proofs.Cuts.{none_written}
use Rattle.hd_script.specs.Commands.{reads_line}
use Rattle.hd_script.specs.declared.command.Command.{Command}
use Rattle.hd_script.specs.declared.command.Command.TheVariants as command
use Rattle.hd_script.specs.declared.fault.LineFault.{LineFault}
use Rattle.hd_script.specs.declared.fault.LineFault.TheVariants as fault
use Rattle.hd_script.specs.Faults.{Fails}
use Rattle.hd_session.specs.declared.refusal.Refusal.{Refusal}
use Rattle.hd_session.specs.declared.refusal.Refusal.TheVariants as refusal
use Rattle.hd_session.specs.Answers as answer
use Rattle.hd_session.specs.States.{State}
use Rattle.hd_session.proofs.Serving.{wrote_nothing, no_fault}
use Rattle.hd_session.specs.Steps as session
use Rattle.hd_app.specs.declared.status.Status.{Status}
use Rattle.hd_app.specs.declared.status.Status.TheVariants.{Done, Usage, Layer, Script, Limit, ReadFault, WriteFault, NoMemory}
use Rattle.hd_app.specs.inner.Stages.{Ends}
use Rattle.hd_app.specs.Endings.{IsInterruption}
use Rattle.hd_app.specs.inner.Lines.{RefusesLine, lines_left}
use Rattle.hd_app.specs.Refusing.{Outcome, refusal_outcome}
use Rattle.hd_app.specs.Scripts.{LineStep, line_refusal, command_refusal, after_command, line_step, step_of_line, after_acts, outcome_after, continue_from, end_of_script, lines_of, outcome_of_lines}
use Rattle.hd_app.proofs.ActLemmas.{wrote_joined, cut_joined, wrote_cut, wrote_cut_of_more, faults_joined, rose_after}

-- an outcome after acts that were made whole
ends_after : (done : List Act) (outcome : Outcome) (before mid now : Outside) (status : Status) → Wrote done before mid → NoFault before mid
    → Ends outcome mid now status → Ends (after_acts done outcome) before now status
ends_after done outcome before mid now status wrote none (inl whole) = inl (record {
  ending = whole.ending;
  written = wrote_joined done outcome.acts before mid now wrote whole.written;
  faults = faults_joined before mid now none whole.faults;
})
ends_after done outcome before mid now status wrote none (inr (inl off)) = inr (inl (record {
  ending = off.ending;
  written = cut_joined done outcome.acts before mid now wrote off.written;
  faults = rose_after before mid now none off.faults;
}))
ends_after done outcome before mid now status wrote none (inr (inr out)) = inr (inr (record {
  ending = out.ending;
  written = cut_joined done outcome.acts before mid now wrote out.written;
  faults = faults_joined before mid now none out.faults;
}))

-- a step that ended so, and what ends after it
ends_step : (further : State → List ℕ → Outcome) (step : LineStep) (after : Result State Status) (before mid now : Outside) (status : Status)
    → answer.Ends step after before mid → Ends (outcome_after further after step.tiles) mid now status → Ends (continue_from further step) before now status
ends_step further step after before mid now status done ends =
    subst (λ (r : Result State Status). Ends (after_acts step.acts (outcome_after further r step.tiles)) before now status) (sym done.is)
    (ends_after step.acts (outcome_after further after step.tiles) before mid now status done.written done.faults ends)

-- what a step's acts can have left, they can have left of the whole script
cut_of_line : (further : State → List ℕ → Outcome) (step : LineStep) (before now : Outside) → WroteCut step.acts before now → WroteCut (continue_from further step).acts before now
cut_of_line further step before now cut = wrote_cut_of_more step.acts (outcome_after further step.after step.tiles).acts before now cut

-- a line that was refused, and the telling of it
pub line_refused : (further : State → List ℕ → Outcome) (step : LineStep) (before mid now : Outside) (why status : Status)
    → RefusesLine step before mid why → Ends (refusal_outcome why) mid now status → (IsInterruption why → (status ≡ why) × (now ≡ mid))
    → Ends (continue_from further step) before now status
line_refused further step before mid now (Script number cause) status refuses ends broken = ends_step further step (Err (Script number cause)) before mid now status refuses ends
line_refused further step before mid now (Limit place which count) status refuses ends broken = ends_step further step (Err (Limit place which count)) before mid now status refuses ends
line_refused further step before mid now WriteFault status refuses ends broken =
    subst (λ (o : Outside). Ends (continue_from further step) before o status) (sym (broken tt).1)
    (inr (inl (record { ending = (broken tt).0; written = cut_of_line further step before mid refuses.0; faults = refuses.1 })))
line_refused further step before mid now NoMemory status refuses ends broken =
    subst (λ (o : Outside). Ends (continue_from further step) before o status) (sym (broken tt).1)
    (inr (inr (record { ending = (broken tt).0; written = cut_of_line further step before mid refuses.0; faults = refuses.1 })))
line_refused further step before mid now Done status refuses ends broken = absurd refuses
line_refused further step before mid now Usage status refuses ends broken = absurd refuses
line_refused further step before mid now (Layer file number cause) status refuses ends broken = absurd refuses
line_refused further step before mid now (ReadFault name) status refuses ends broken = absurd refuses

-- a line in which memory ran out before anything was written
wants_memory : (step : LineStep) (before : Outside) → RefusesLine step before before NoMemory
wants_memory step before = (none_written step.acts before, no_fault before)

-- a step without acts
silent_step : (after : Result State Status) (before : Outside) → answer.Ends (session.silent after []) after before before
silent_step after before = record { is = refl; written = wrote_nothing before; faults = no_fault before }

-- a line that is no command
refused_line : (name : List ℕ) (number : ℕ) (s : State) (read : Result (Option Command) LineFault) (why : LineFault) (before : Outside)
    → read ≡ Err why → answer.Ends (line_step name number s [] read) (Err (line_refusal name number why)) before before
refused_line name number s read why before is =
    subst (λ (r : Result (Option Command) LineFault). answer.Ends (line_step name number s [] r) (Err (line_refusal name number why)) before before) (sym is)
    (silent_step (Err (line_refusal name number why)) before)

pub unread_line : (name : List ℕ) (number : ℕ) (s : State) (read : Result (Option Command) LineFault) (why : LineFault) (status : Status) (before : Outside)
    → Fails why read → (status ≡ line_refusal name number why) ⊎ (status ≡ NoMemory) → RefusesLine (line_step name number s [] read) before before status
unread_line name number s read why status before fails (inr none) =
    subst (λ (st : Status). RefusesLine (line_step name number s [] read) before before st) (sym none) (wants_memory (line_step name number s [] read) before)
unread_line name number s read fault.NoMemory status before fails (inl is) =
    subst (λ (st : Status). RefusesLine (line_step name number s [] read) before before st) (sym is) (wants_memory (line_step name number s [] read) before)
unread_line name number s read fault.Syntax status before fails (inl is) =
    subst (λ (st : Status). RefusesLine (line_step name number s [] read) before before st) (sym is) (refused_line name number s read fault.Syntax before fails)
unread_line name number s read fault.LeftOut status before fails (inl is) =
    subst (λ (st : Status). RefusesLine (line_step name number s [] read) before before st) (sym is) (refused_line name number s read fault.LeftOut before fails)
unread_line name number s read fault.Fraction status before fails (inl is) =
    subst (λ (st : Status). RefusesLine (line_step name number s [] read) before before st) (sym is) (refused_line name number s read fault.Fraction before fails)
unread_line name number s read (fault.Limit which) status before fails (inl is) =
    subst (λ (st : Status). RefusesLine (line_step name number s [] read) before before st) (sym is) (refused_line name number s read (fault.Limit which) before fails)

-- a command that ended so ends its line
ended_command : (name : List ℕ) (number : ℕ) (step : session.Step Refusal) (after : Result State Refusal) (before now : Outside)
    → answer.Ends step after before now → answer.Ends (step_of_line name number step) (after_command name number after) before now
ended_command name number step after before now ends = record {
  is = ap (after_command name number) ends.is;
  written = ends.written;
  faults = ends.faults;
}

-- and where memory ran out before its refusal was told
untold_command : (step : session.Step Refusal) (after : Result State Refusal) (before now : Outside) → answer.Ends step after before now → answer.WantsMemory step before now
untold_command step after before now ends = (wrote_cut step.acts before now ends.written, ends.faults)

-- a command that was not done
pub undone_command : (name : List ℕ) (number : ℕ) (step : session.Step Refusal) (why : Refusal) (status : Status) (before now : Outside)
    → answer.Refuses step before now why → (status ≡ command_refusal name number why) ⊎ (status ≡ NoMemory) → (why ≡ refusal.WriteFault → status ≡ WriteFault)
    → RefusesLine (step_of_line name number step) before now status
undone_command name number step refusal.WriteFault status before now refuses given write =
    subst (λ (st : Status). RefusesLine (step_of_line name number step) before now st) (sym (write refl)) refuses
undone_command name number step refusal.NoMemory status before now refuses given write =
    let is : status ≡ NoMemory = elim given as (λ _. status ≡ NoMemory) [ inl e ↦ e | inr e ↦ e ] in
    subst (λ (st : Status). RefusesLine (step_of_line name number step) before now st) (sym is) refuses
undone_command name number step (refusal.Script cause) status before now refuses (inl is) write =
    subst (λ (st : Status). RefusesLine (step_of_line name number step) before now st) (sym is) (ended_command name number step (Err (refusal.Script cause)) before now refuses)
undone_command name number step (refusal.Limit which) status before now refuses (inl is) write =
    subst (λ (st : Status). RefusesLine (step_of_line name number step) before now st) (sym is) (ended_command name number step (Err (refusal.Limit which)) before now refuses)
undone_command name number step (refusal.Script cause) status before now refuses (inr none) write =
    subst (λ (st : Status). RefusesLine (step_of_line name number step) before now st) (sym none) (untold_command step (Err (refusal.Script cause)) before now refuses)
undone_command name number step (refusal.Limit which) status before now refuses (inr none) write =
    subst (λ (st : Status). RefusesLine (step_of_line name number step) before now st) (sym none) (untold_command step (Err (refusal.Limit which)) before now refuses)

-- a command that was done
pub done_command : (name : List ℕ) (number : ℕ) (step : session.Step Refusal) (after : State) (before now : Outside)
    → answer.Does step after before now → answer.Does (step_of_line name number step) after before now
done_command name number step after before now does = ended_command name number step (Ok after) before now does

-- a script whose end was done
pub end_done : (s after : State) (before now : Outside) → answer.Does (session.finish s []) after before now → Ends (end_of_script (session.finish s [])) before now Done
end_done s after before now does = inl (record { ending = refl; written = does.written; faults = does.faults })

-- a script whose end was not done
pub end_undone : (s : State) (why : Refusal) (status : Status) (before now : Outside) → answer.Refuses (session.finish s []) before now why
    → (why ≡ refusal.WriteFault → status ≡ WriteFault) → (why ≡ refusal.NoMemory → status ≡ NoMemory)
    → Ends (end_of_script (session.finish s [])) before now status
end_undone s refusal.WriteFault status before now refuses write memory = inr (inl (record { ending = write refl; written = refuses.0; faults = refuses.1 }))
end_undone s refusal.NoMemory status before now refuses write memory = inr (inr (record { ending = memory refl; written = refuses.0; faults = refuses.1 }))
end_undone s (refusal.Script cause) status before now refuses write memory =
    let no : (session.finish s []).after ≡ Err (refusal.Script cause) = refuses.is in cc
end_undone s (refusal.Limit which) status before now refuses write memory =
    let no : (session.finish s []).after ≡ Err (refusal.Limit which) = refuses.is in cc

-- a run in which memory ran out before anything was written
pub unbegun : (outcome : Outcome) (before : Outside) → Ends outcome before before NoMemory
unbegun outcome before = inr (inr (record { ending = refl; written = none_written outcome.acts before; faults = no_fault before }))

-- a script that has come so far ends as the rest of it
abbrev pub LeadsOn : Outcome → Outside → Outcome → Outside → Type 0
LeadsOn whole before rest mid = (now : Outside) (status : Status) → Ends rest mid now status → Ends whole before now status

-- the bytes that are left of a text, and one for its last line
abbrev pub room : Option (List ℕ) → ℕ
room None = 0
room (Some text) = suc (length text)

-- where no counts of tiles are given, none are left after a command
none_after : (s : State) (given : Command) → (session.step s given []).tiles ≡ []
none_after s (command.Layer number) = refl
none_after s (command.Edit edit) = refl
none_after s command.Commit = refl
none_after s (command.Dump name) = refl
none_after s command.Report = refl
none_after s (command.Start name width height camera) = refl
none_after s (command.Tiles count) = refl
none_after s command.Pause = refl
none_after s command.Resume = refl
none_after s command.Stop = refl
none_after s command.Wait = refl

none_left : (name : List ℕ) (number : ℕ) (s : State) (read : Result (Option Command) LineFault) → (line_step name number s [] read).tiles ≡ []
none_left name number s (Ok None) = refl
none_left name number s (Ok (Some given)) = none_after s given
none_left name number s (Err why) = refl

-- a line that was done leads on to those after it
pub leads_on : (name : List ℕ) (number : ℕ) (s after : State) (text line : List ℕ) (rest : List (List ℕ)) (before mid : Outside)
    → lines_of text ≡ line ∷ rest → answer.Does (line_step name number s [] (reads_line line)) after before mid
    → LeadsOn (outcome_of_lines name number s [] (lines_of text)) before (outcome_of_lines name (number + 1) after [] rest) mid
leads_on name number s after text line rest before mid cut does now status ends =
    let step : LineStep = line_step name number s [] (reads_line line) in
    let further : State → List ℕ → Outcome = λ a left. outcome_of_lines name (number + 1) a left rest in
    subst (λ (lines : List (List ℕ)). Ends (outcome_of_lines name number s [] lines) before now status) (sym cut)
    (ends_step further step (Ok after) before mid now status does
    (subst (λ (left : List ℕ). Ends (further after left) mid now status) (sym (none_left name number s (reads_line line))) ends))

-- a line that was refused ends the script
pub stops_at : (name : List ℕ) (number : ℕ) (s : State) (text line : List ℕ) (rest : List (List ℕ)) (before mid now : Outside) (why status : Status)
    → lines_of text ≡ line ∷ rest → RefusesLine (line_step name number s [] (reads_line line)) before mid why
    → Ends (refusal_outcome why) mid now status → (IsInterruption why → (status ≡ why) × (now ≡ mid))
    → Ends (outcome_of_lines name number s [] (lines_of text)) before now status
stops_at name number s text line rest before mid now why status cut refuses ends broken =
    subst (λ (lines : List (List ℕ)). Ends (outcome_of_lines name number s [] lines) before now status) (sym cut)
    (line_refused (λ a left. outcome_of_lines name (number + 1) a left rest) (line_step name number s [] (reads_line line)) before mid now why status refuses ends broken)

-- a rack and a sink
abbrev pub outside : RackState → SinkState → Outside
outside rack sink = record { rack = rack; sink = sink }

-- a sink that is as it was
pub same_outside : (rack : RackState) (before now : SinkState) → now ≡ before → outside rack now ≡ outside rack before
same_outside rack before now same = ap (outside rack) same

-- a script of which a line was refused
pub script_refused : (name : List ℕ) (number : ℕ) (first s : State) (bytes : List ℕ) (left : Option (List ℕ)) (text line : List ℕ) (rest : List (List ℕ))
    (start before mid now : Outside) (why status : Status)
    → LeadsOn (outcome_of_lines name 1 first [] (lines_of bytes)) start (outcome_of_lines name number s [] (lines_left left)) before
    → left ≡ Some text → lines_of text ≡ line ∷ rest → RefusesLine (line_step name number s [] (reads_line line)) before mid why
    → Ends (refusal_outcome why) mid now status → (IsInterruption why → (status ≡ why) × (now ≡ mid))
    → Ends (outcome_of_lines name 1 first [] (lines_of bytes)) start now status
script_refused name number first s bytes left text line rest start before mid now why status leads is cut refuses ends broken =
    leads now status (
    subst (λ (l : Option (List ℕ)). Ends (outcome_of_lines name number s [] (lines_left l)) before now status) (sym is)
    (stops_at name number s text line rest before mid now why status cut refuses ends broken))

-- a script of which a line was done
pub script_leads : (name : List ℕ) (number : ℕ) (first s after : State) (bytes : List ℕ) (left : Option (List ℕ)) (text line : List ℕ) (rest : List (List ℕ))
    (start before mid : Outside)
    → LeadsOn (outcome_of_lines name 1 first [] (lines_of bytes)) start (outcome_of_lines name number s [] (lines_left left)) before
    → left ≡ Some text → lines_of text ≡ line ∷ rest → answer.Does (line_step name number s [] (reads_line line)) after before mid
    → LeadsOn (outcome_of_lines name 1 first [] (lines_of bytes)) start (outcome_of_lines name (number + 1) after [] rest) mid
script_leads name number first s after bytes left text line rest start before mid leads is cut does now status ends =
    leads now status (
    subst (λ (l : Option (List ℕ)). Ends (outcome_of_lines name number s [] (lines_left l)) before now status) (sym is)
    (leads_on name number s after text line rest before mid cut does now status ends))

-- a script that was read to its end
pub script_ended : (name : List ℕ) (number : ℕ) (first s : State) (bytes : List ℕ) (left : Option (List ℕ)) (start before now : Outside) (status : Status)
    → LeadsOn (outcome_of_lines name 1 first [] (lines_of bytes)) start (outcome_of_lines name number s [] (lines_left left)) before
    → left ≡ None → Ends (end_of_script (session.finish s [])) before now status → Ends (outcome_of_lines name 1 first [] (lines_of bytes)) start now status
script_ended name number first s bytes left start before now status leads is ends =
    leads now status (subst (λ (l : Option (List ℕ)). Ends (outcome_of_lines name number s [] (lines_left l)) before now status) (sym is) ends)

room_left : (number most : ℕ) (later : Option (List ℕ)) (text : List ℕ) → IfSome later (λ b. length b < length text) → number + suc (length text) ≤ most
    → number + 1 + room later ≤ most
room_left number most None text shorter within = omega (arith, within)
room_left number most (Some b) text shorter within = omega (arith, shorter, within)

-- each line has a number for itself
pub counted : (number most : ℕ) (left later : Option (List ℕ)) (text : List ℕ) → left ≡ Some text → IfSome later (λ b. length b < length text) → number + room left ≤ most
    → number + 1 + room later ≤ most
counted number most left later text is shorter within =
    room_left number most later text shorter (subst (λ (l : Option (List ℕ)). number + room l ≤ most) is within)

pub shorter_room : (left later : Option (List ℕ)) (text : List ℕ) → left ≡ Some text → IfSome later (λ b. length b < length text) → room later < room left
shorter_room left None text is shorter = subst (λ (l : Option (List ℕ)). 0 < room l) (sym is) (omega arith)
shorter_room left (Some b) text is shorter = subst (λ (l : Option (List ℕ)). suc (length b) < room l) (sym is) (omega (arith, shorter))
