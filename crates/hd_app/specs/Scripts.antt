-- What a script does from its first line to its last.
use Rattle.std.specs.Prelude.{ℕ, ◌+◌, List, [], ◌∷◌, ◌++◌, Option, Some, None, Result, Ok, Err, nat_eq, if◌then◌else◌}
use Rattle.hd_layer.specs.Limits.{limit_of}
use Rattle.hd_io.specs.Acts.{Act}
use Rattle.hd_script.specs.declared.command.Command.{Command}
use Rattle.hd_script.specs.declared.fault.LineFault.{LineFault}
use Rattle.hd_script.specs.declared.fault.LineFault.TheVariants as fault
use Rattle.hd_script.specs.Commands.{reads_line}
use Rattle.hd_session.specs.declared.refusal.ScriptWhy.TheVariants as why
use Rattle.hd_session.specs.declared.refusal.Refusal.{Refusal}
use Rattle.hd_session.specs.declared.refusal.Refusal.TheVariants as refusal
use Rattle.hd_session.specs.States.{State}
use Rattle.hd_session.specs.Steps as session
use Rattle.hd_app.specs.declared.status.Status.{Status}
use Rattle.hd_app.specs.declared.status.Status.TheVariants.{Done, Script, Limit, WriteFault, NoMemory}
use Rattle.hd_app.specs.declared.status.Place.TheVariants.{Line}
use Rattle.hd_app.specs.Refusing.{Outcome, refusal_outcome}

-- the bytes up to the first line feed, and after it
abbrev pub with_byte : ℕ → List (List ℕ) → List (List ℕ)
with_byte b [] = (b ∷ []) ∷ []
with_byte b (line ∷ lines) = (b ∷ line) ∷ lines

-- the lines of a text, without the line feeds that end them; after the last line feed there is one more, which may be empty
abbrev pub lines_of : List ℕ → List (List ℕ)
lines_of [] = [] ∷ []
lines_of (b ∷ bs) = if nat_eq b 10 then [] ∷ lines_of bs else with_byte b (lines_of bs)

-- the refusal of a line that is no command
abbrev pub line_refusal : (script : List ℕ) (number : ℕ) → LineFault → Status
line_refusal script number fault.Syntax = Script number why.Syntax
line_refusal script number fault.LeftOut = Script number why.LeftOut
line_refusal script number fault.Fraction = Script number why.Fraction
line_refusal script number (fault.Limit which) = Limit (Line script number) which (limit_of which)
line_refusal script number fault.NoMemory = NoMemory

-- the refusal of a command
abbrev pub command_refusal : (script : List ℕ) (number : ℕ) → Refusal → Status
command_refusal script number (refusal.Script cause) = Script number cause
command_refusal script number (refusal.Limit which) = Limit (Line script number) which (limit_of which)
command_refusal script number refusal.WriteFault = WriteFault
command_refusal script number refusal.NoMemory = NoMemory

-- what a line does, or why it is refused
abbrev pub LineStep : Type 0
LineStep = session.Step Status

-- the state after a command, or the refusal of its line
abbrev pub after_command : (script : List ℕ) (number : ℕ) → Result State Refusal → Result State Status
after_command script number (Ok after) = Ok after
after_command script number (Err why) = Err (command_refusal script number why)

abbrev pub step_of_line : (script : List ℕ) (number : ℕ) → session.Step Refusal → LineStep
step_of_line script number step = record { acts = step.acts; after = after_command script number step.after; tiles = step.tiles }

-- what the line of this number does, by what it reads as, where frames that it ends have these counts of tiles
abbrev pub line_step : (script : List ℕ) (number : ℕ) → State → (tiles : List ℕ) → Result (Option Command) LineFault → LineStep
line_step script number s tiles (Ok None) = session.silent (Ok s) tiles
line_step script number s tiles (Ok (Some command)) = step_of_line script number (session.step s command tiles)
line_step script number s tiles (Err why) = session.silent (Err (line_refusal script number why)) tiles

-- acts, and after them an outcome
abbrev pub after_acts : List Act → Outcome → Outcome
after_acts acts outcome = record { acts = acts ++ outcome.acts; ending = outcome.ending }

-- what comes after the acts of a step: an outcome from its state and the counts of tiles that are left, or its refusal
abbrev pub outcome_after : (State → List ℕ → Outcome) → Result State Status → (tiles : List ℕ) → Outcome
outcome_after further (Ok after) tiles = further after tiles
outcome_after further (Err status) tiles = refusal_outcome status

abbrev pub continue_from : (State → List ℕ → Outcome) → LineStep → Outcome
continue_from further step = after_acts step.acts (outcome_after further step.after step.tiles)

-- the outcome of the end of a script
abbrev pub end_of_script : session.Step Refusal → Outcome
end_of_script step = record { acts = step.acts; ending = Done }

-- the outcome of lines, of which the first has this number, from a state on, where the frames that end before they are drawn
-- whole have these counts of tiles
abbrev pub outcome_of_lines : (script : List ℕ) (number : ℕ) → State → (tiles : List ℕ) → (lines : List (List ℕ)) → Outcome
outcome_of_lines script number s tiles [] = end_of_script (session.finish s tiles)
outcome_of_lines script number s tiles (line ∷ lines) =
    continue_from (λ after left. outcome_of_lines script (number + 1) after left lines) (line_step script number s tiles (reads_line line))
