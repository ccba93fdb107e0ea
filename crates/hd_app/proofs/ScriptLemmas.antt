-- How a script can end.
use Rattle.std.proofs.Common.{◌≡◌, ℕ, ◌+◌, ◌-◌, ◌≤◌, Bool, true, false, cond, List, [], ◌∷◌, ◌++◌, length, take, Option, Some, None, Ok, Err, refl, sym, ap, subst, arith, length-take}
use Rattle.std.specs.Prelude.{Result, Contains, IfSome, codes, nat_lt, slice_index_or}
use Rattle.std.specs.Str.{bytes_eq}
use Rattle.std.proofs.lemmas.Bool.Decides.{nat_tests}
use Rattle.std.proofs.lemmas.List.Elements.{Contains-push}
use Rattle.hd_layer.specs.declared.spec.LayerSpec.{LayerSpec}
use Rattle.hd_layer.specs.Limits.{limit_of}
use Rattle.hd_io.specs.Acts.{Outside}
use Rattle.hd_script.specs.declared.command.Command.{Command}
use Rattle.hd_script.specs.declared.fault.LineFault.{LineFault}
use Rattle.hd_script.specs.declared.fault.LineFault.TheVariants as fault
use Rattle.hd_script.specs.Commands.{reads_line}
use Rattle.hd_script.proofs.Causes.{no_want}
use Rattle.hd_session.specs.declared.refusal.Refusal.{Refusal}
use Rattle.hd_session.specs.declared.refusal.Refusal.TheVariants as refusal
use Rattle.hd_session.specs.Laws.{is_own_cause}
use Rattle.hd_session.specs.States.{State, opening_state}
use Rattle.hd_session.specs.Steps as session
use Rattle.hd_session.proofs.Causes.{have_own_causes}
use Rattle.hd_app.specs.declared.status.Status.{Status}
use Rattle.hd_app.specs.declared.status.Status.TheVariants.{Done, Usage, Layer, Script, Limit, ReadFault, WriteFault, NoMemory}
use Rattle.hd_app.specs.declared.status.Place.TheVariants.{Words, File, Line}
use Rattle.hd_app.specs.Commands.{Program, draw, step, draw_of, step_of}
use Rattle.hd_app.specs.Commands as program
use Rattle.hd_app.specs.inner.Stages.{Ends, Runs}
use Rattle.hd_app.specs.Endings.{IsReadFault}
use Rattle.hd_app.specs.Outcomes.{step_outcome}
use Rattle.hd_app.specs.Refusing.{Outcome}
use Rattle.hd_io.specs.Shelf.{ShelfState}
use Rattle.hd_app.specs.Runs.{IsOpen, IsAnswerTo}
use Rattle.hd_app.specs.Scripts.{LineStep, line_refusal, after_command, line_step, outcome_after, lines_of, outcome_of_lines}
use Rattle.hd_app.proofs.RunLemmas.{ran_runs}

-- the endings of a script: it was done, or one of its lines is refused
abbrev pub EndsScript : List ℕ → Status → Type 0
EndsScript name Done = Unit {0}
EndsScript name (Script line cause) = Unit {0}
EndsScript name (Limit (Line file line) which count) = (file ≡ name) × (count ≡ limit_of which)
EndsScript name (Limit Words which count) = ⊥
EndsScript name (Limit (File file) which count) = ⊥
EndsScript name NoMemory = ⊥
EndsScript name Usage = ⊥
EndsScript name (Layer file line cause) = ⊥
EndsScript name (ReadFault file) = ⊥
EndsScript name WriteFault = ⊥

line_refusal_ends : (name : List ℕ) (number : ℕ) (why : LineFault) → (why ≡ fault.NoMemory → ⊥) → EndsScript name (line_refusal name number why)
line_refusal_ends name number fault.Syntax other = tt
line_refusal_ends name number fault.LeftOut other = tt
line_refusal_ends name number fault.Fraction other = tt
line_refusal_ends name number (fault.Limit which) other = (refl, refl)
line_refusal_ends name number fault.NoMemory other = other refl

-- how a line ends a script, if it ends it
abbrev pub EndsIfRefused : List ℕ → Result State Status → Type 0
EndsIfRefused name (Ok after) = Unit {0}
EndsIfRefused name (Err status) = EndsScript name status

command_ends : (name : List ℕ) (number : ℕ) (after : Result State Refusal) → ((why : Refusal) → after ≡ Err why → is_own_cause why ≡ true) → EndsIfRefused name (after_command name number after)
command_ends name number (Ok after) own = tt
command_ends name number (Err (refusal.Script cause)) own = tt
command_ends name number (Err (refusal.Limit which)) own = (refl, refl)
command_ends name number (Err refusal.WriteFault) own = let no : false ≡ true = own refusal.WriteFault refl in cc
command_ends name number (Err refusal.NoMemory) own = let no : false ≡ true = own refusal.NoMemory refl in cc

line_ends : (name : List ℕ) (number : ℕ) (s : State) (tiles : List ℕ) (read : Result (Option Command) LineFault) → (read ≡ Err fault.NoMemory → ⊥)
    → EndsIfRefused name (line_step name number s tiles read).after
line_ends name number s tiles (Ok None) wants = tt
line_ends name number s tiles (Ok (Some c)) wants = command_ends name number (session.step s c tiles).after (have_own_causes s c tiles)
line_ends name number s tiles (Err why) wants = line_refusal_ends name number why (λ is. wants (ap (λ (w : LineFault). Err w) is))

continued_ends : (name : List ℕ) (further : State → List ℕ → Outcome) (after : Result State Status) (tiles : List ℕ) → EndsIfRefused name after
    → ((s : State) (left : List ℕ) → EndsScript name (further s left).ending) → EndsScript name (outcome_after further after tiles).ending
continued_ends name further (Ok after) tiles own rest = rest after tiles
continued_ends name further (Err status) tiles own rest = own

-- each script ends so
pub script_ends : (name : List ℕ) (number : ℕ) (s : State) (tiles : List ℕ) (lines : List (List ℕ)) → EndsScript name (outcome_of_lines name number s tiles lines).ending
script_ends name number s tiles [] = tt
script_ends name number s tiles (line ∷ lines) =
    let step : LineStep = line_step name number s tiles (reads_line line) in
    continued_ends name (λ after left. outcome_of_lines name (number + 1) after left lines) step.after step.tiles
    (line_ends name number s tiles (reads_line line) (no_want line)) (λ after left. script_ends name (number + 1) after left lines)

-- what such an ending says of itself
pub script_answers : (layers : List (List ℕ)) (name : List ℕ) (shelf : ShelfState) (status : Status) → length layers ≤ 8 → IsOpen shelf name → EndsScript name status → IsAnswerTo (Some (step layers name)) shelf status
script_answers layers name shelf Done few is_open ends = few
script_answers layers name shelf (Script line cause) few is_open ends = (few, tt)
script_answers layers name shelf (Limit (Line file line) which count) few is_open ends =
    (few, subst (λ (f : List ℕ). Contains (layers ++ name ∷ []) f) (sym ends.0) (Contains-push layers name), ends.1, subst (IsOpen shelf) (sym ends.0) is_open)
script_answers layers name shelf (Limit Words which count) few is_open ends = absurd ends
script_answers layers name shelf (Limit (File file) which count) few is_open ends = absurd ends
script_answers layers name shelf NoMemory few is_open ends = absurd ends
script_answers layers name shelf Usage few is_open ends = absurd ends
script_answers layers name shelf (Layer file line cause) few is_open ends = absurd ends
script_answers layers name shelf (ReadFault file) few is_open ends = absurd ends
script_answers layers name shelf WriteFault few is_open ends = absurd ends

pub script_reads : (name : List ℕ) (status : Status) → EndsScript name status → IsReadFault status → ⊥
script_reads name (ReadFault file) ends is = ends
script_reads name Done ends is = is
script_reads name Usage ends is = is
script_reads name (Layer file line cause) ends is = is
script_reads name (Script line cause) ends is = is
script_reads name (Limit place which count) ends is = is
script_reads name WriteFault ends is = is
script_reads name NoMemory ends is = ends

pub script_writes : (name : List ℕ) (status : Status) → EndsScript name status → status ≡ WriteFault → ⊥
script_writes name status ends is = subst (EndsScript name) is ends

draw_is_draw : (words : List (List ℕ)) (layers : List (List ℕ)) (script : List ℕ) → draw_of words ≡ Some (step layers script) → 1 ≤ length layers
draw_is_draw [] layers script is = cc
draw_is_draw (layer ∷ []) layers script is = cc
draw_is_draw (layer ∷ out ∷ []) layers script is = let no : Some (draw layer out) ≡ Some (step layers script) = is in cc
draw_is_draw (layer ∷ out ∷ more ∷ words) layers script is = cc

step_if : (b : Bool) (some : List (List ℕ)) (name : List ℕ) (layers : List (List ℕ)) (script : List ℕ)
    → cond b None (Some (step some name)) ≡ Some (step layers script) → (b ≡ false) × (some ≡ layers)
step_if true some name layers script is = let no : None ≡ Some (step layers script) = is in cc
step_if false some name layers script is = (refl, cc)

step_names_layers : (words : List (List ℕ)) (layers : List (List ℕ)) (script : List ℕ) → step_of words ≡ Some (step layers script) → 1 ≤ length layers
step_names_layers words layers script is =
    let kept = step_if (nat_lt (length words) 2) (take (length words - 1) words) (slice_index_or words (length words - 1) []) layers script is in
    let test = kept.0 in
    let many : 2 ≤ length words = grind (arith, nat_tests, test) in
    let size : length (take (length words - 1) words) ≡ length words - 1 = simp length-take (omega arith) in
    subst (λ (names : List (List ℕ)). 1 ≤ length names) kept.1 (omega (arith, many, size))

either_names_layers : (b : Bool) (x y : Option Program) (layers : List (List ℕ)) (script : List ℕ)
    → (x ≡ Some (step layers script) → 1 ≤ length layers) → (y ≡ Some (step layers script) → 1 ≤ length layers)
    → cond b x y ≡ Some (step layers script) → 1 ≤ length layers
either_names_layers true x y layers script first other is = first is
either_names_layers false x y layers script first other is = other is

-- a script is run over one layer at least
pub some_layers : (words : List (List ℕ)) (layers : List (List ℕ)) (script : List ℕ) → program.command words ≡ Some (step layers script) → 1 ≤ length layers
some_layers [] layers script is = cc
some_layers (word ∷ words) layers script is =
    either_names_layers (bytes_eq word (codes "draw")) (draw_of words) (cond (bytes_eq word (codes "step")) (step_of words) None) layers script
    (draw_is_draw words layers script)
    (either_names_layers (bytes_eq word (codes "step")) (step_of words) None layers script (step_names_layers words layers script) (λ (no : None ≡ Some (step layers script)). cc))
    is

-- a script that was run over layers that were read
pub stepped_runs : (layers : List (List ℕ)) (script : List ℕ) (read : List LayerSpec) (bytes : List ℕ) (shelf_before shelf_now : ShelfState) (before now : Outside) (status : Status) → length layers ≤ 8
    → IfSome shelf_before.files (λ files. step_outcome files layers script [] ≡ outcome_of_lines script 1 (opening_state read) [] (lines_of bytes)) → shelf_now.faults ≡ shelf_before.faults → IsOpen shelf_now script
    → Ends (outcome_of_lines script 1 (opening_state read) [] (lines_of bytes)) before now status → Runs (Some (step layers script)) shelf_before shelf_now before now status
stepped_runs layers script read bytes shelf_before shelf_now before now status few told kept is_open ends =
    let own = script_ends script 1 (opening_state read) [] (lines_of bytes) in
    ran_runs (step layers script) (outcome_of_lines script 1 (opening_state read) [] (lines_of bytes)) shelf_before shelf_now before now status told kept
    (script_answers layers script shelf_now (outcome_of_lines script 1 (opening_state read) [] (lines_of bytes)).ending few is_open own)
    (script_reads script (outcome_of_lines script 1 (opening_state read) [] (lines_of bytes)).ending own)
    (script_writes script (outcome_of_lines script 1 (opening_state read) [] (lines_of bytes)).ending own) ends
