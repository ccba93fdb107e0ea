-- How a run ends does not depend on the counts of tiles.
use Rattle.std.proofs.Common.{◌≡◌, ℕ, ◌+◌, length, Bool, true, false, if◌then◌else◌, List, [], ◌∷◌, Option, Some, None, Ok, Err, refl, ap, subst}
use Rattle.std.specs.Prelude.{Result, nat_lt}
use Rattle.hd_layer.specs.Limits.{limit_of}
use Rattle.hd_layer.specs.declared.limits.Which.TheVariants.{Layers}
use Rattle.hd_layer.specs.declared.spec.LayerSpec.{LayerSpec}
use Rattle.hd_io.specs.Files.{FileMap}
use Rattle.hd_script.specs.Commands.{reads_line}
use Rattle.hd_script.specs.declared.command.Command.{Command}
use Rattle.hd_script.specs.declared.fault.LineFault.{LineFault}
use Rattle.hd_session.specs.States.{State, opening_state}
use Rattle.hd_session.proofs.LawProofs.{states_ignore_tiles}
use Rattle.hd_app.specs.declared.status.Status.{Status}
use Rattle.hd_app.specs.declared.status.Status.TheVariants.{Limit}
use Rattle.hd_app.specs.declared.status.Place.TheVariants.{Words}
use Rattle.hd_app.specs.Commands.{Program, draw, step, command}
use Rattle.hd_app.specs.Laws.{EndingsIgnoreTiles}
use Rattle.hd_app.specs.Outcomes.{layers_in, script_in, step_if_read, outcome_of}
use Rattle.hd_app.specs.Refusing.{Outcome, refusal_outcome}
use Rattle.hd_app.specs.Scripts.{LineStep, after_command, line_step, outcome_after, continue_from, lines_of, outcome_of_lines}

-- the state after a line, or its refusal, does not depend on them
same_after : (name : List ℕ) (number : ℕ) (s : State) (one other : List ℕ) (read : Result (Option Command) LineFault)
    → (line_step name number s one read).after ≡ (line_step name number s other read).after
same_after name number s one other (Ok None) = refl
same_after name number s one other (Ok (Some given)) = ap (after_command name number) (states_ignore_tiles s given one other)
same_after name number s one other (Err why) = refl

-- nor does what ends after it, where that does not
same_further : (further : State → List ℕ → Outcome) (after : Result State Status) (one other : List ℕ)
    → ((s : State) (a b : List ℕ) → (further s a).ending ≡ (further s b).ending)
    → (outcome_after further after one).ending ≡ (outcome_after further after other).ending
same_further further (Ok after) one other rest = rest after one other
same_further further (Err status) one other rest = refl

same_continued : (further : State → List ℕ → Outcome) (one other : LineStep) → one.after ≡ other.after
    → ((s : State) (a b : List ℕ) → (further s a).ending ≡ (further s b).ending)
    → (continue_from further one).ending ≡ (continue_from further other).ending
same_continued further one other same rest =
    subst (λ (after : Result State Status). (outcome_after further one.after one.tiles).ending ≡ (outcome_after further after other.tiles).ending) same
    (same_further further one.after one.tiles other.tiles rest)

same_lines : (name : List ℕ) (number : ℕ) (s : State) (one other : List ℕ) (lines : List (List ℕ))
    → (outcome_of_lines name number s one lines).ending ≡ (outcome_of_lines name number s other lines).ending
same_lines name number s one other [] = refl
same_lines name number s one other (line ∷ lines) =
    same_continued (λ after left. outcome_of_lines name (number + 1) after left lines)
    (line_step name number s one (reads_line line)) (line_step name number s other (reads_line line))
    (same_after name number s one other (reads_line line)) (λ after a b. same_lines name (number + 1) after a b lines)

same_stepped : (name one other : List ℕ) (layers : Result (List LayerSpec) Status) (script : Result (List ℕ) Status)
    → (step_if_read name one layers script).ending ≡ (step_if_read name other layers script).ending
same_stepped name one other (Ok layers) (Ok script) = same_lines name 1 (opening_state layers) one other (lines_of script)
same_stepped name one other (Ok layers) (Err status) = refl
same_stepped name one other (Err status) script = refl

either_same : (b : Bool) (x one other : Outcome) → one.ending ≡ other.ending → (if b then x else one).ending ≡ (if b then x else other).ending
either_same true x one other same = refl
either_same false x one other same = same

same_program : (files : FileMap) (program : Option Program) (one other : List ℕ) → (outcome_of files program one).ending ≡ (outcome_of files program other).ending
same_program files None one other = refl
same_program files (Some (draw layer out)) one other = refl
same_program files (Some (step layers script)) one other =
    either_same (nat_lt (limit_of Layers) (length layers)) (refusal_outcome (Limit Words Layers (limit_of Layers)))
    (step_if_read script one (layers_in files layers) (script_in files script)) (step_if_read script other (layers_in files layers) (script_in files script))
    (same_stepped script one other (layers_in files layers) (script_in files script))

pub endings_ignore_tiles : EndingsIgnoreTiles
endings_ignore_tiles words files one other = same_program files (command words) one other
