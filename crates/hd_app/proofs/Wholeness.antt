-- No outcome is itself interrupted.
use Rattle.std.proofs.Common.{ℕ, length, Bool, true, false, if◌then◌else◌, List, [], ◌∷◌, Option, Some, None, Ok, Err}
use Rattle.std.specs.Prelude.{Result, nat_lt}
use Rattle.hd_usda.specs.reading.Cursor.{Fault}
use Rattle.hd_usda.specs.Layer.{reads}
use Rattle.hd_layer.specs.Limits.{limit_of}
use Rattle.hd_layer.specs.declared.fault.LayerWhy.{LayerWhy}
use Rattle.hd_layer.specs.declared.fault.LayerWhy.TheVariants as why
use Rattle.hd_layer.specs.declared.limits.Which.TheVariants.{Layers, Bytes, Triangles}
use Rattle.hd_layer.specs.declared.spec.LayerSpec.{LayerSpec}
use Rattle.hd_picture.specs.define.Pixels.{picture}
use Rattle.hd_picture.specs.Ppm.{ppm}
use Rattle.hd_io.specs.Files.{FileMap, bytes_of}
use Rattle.hd_session.specs.States.{opening_state}
use Rattle.hd_app.specs.declared.status.Status.{Status}
use Rattle.hd_app.specs.declared.status.Status.TheVariants.{Done, Usage, Layer, Script, Limit, ReadFault, WriteFault, NoMemory}
use Rattle.hd_app.specs.declared.status.Place.TheVariants.{Words, File}
use Rattle.hd_app.specs.Commands.{Program, draw, step, command}
use Rattle.hd_app.specs.Endings.{IsInterruption}
use Rattle.hd_app.specs.Laws.{OutcomesEndWhole}
use Rattle.hd_app.specs.Outcomes.{layer_frame, triangle_limit, picture_outcome, refusal_at, layer_spelled, layer_of_file, layer_in, draw_if_read, with_layer, layers_in, script_of_file, script_in, step_if_read, outcome_of, byte_limit}
use Rattle.hd_app.specs.Refusing.{Outcome, refusal_outcome}
use Rattle.hd_app.specs.Scripts.{lines_of, outcome_of_lines}
use Rattle.hd_app.proofs.ScriptLemmas.{EndsScript, script_ends}

-- where a part of a run is refused, its refusal tells itself
abbrev EndsWell : {T : Type 0} → Result T Status → Type 0
EndsWell (Ok value) = Unit {0}
EndsWell (Err status) = ¬ IsInterruption status

refusal_well : (name : List ℕ) (number : ℕ) (cause : LayerWhy) → ¬ IsInterruption (refusal_at name number cause)
refusal_well name number (why.Limit which) is = is
refusal_well name number why.Header is = is
refusal_well name number why.Syntax is = is
refusal_well name number why.NotUtf8 is = is
refusal_well name number why.Twice is = is
refusal_well name number why.LeftOut is = is
refusal_well name number why.Fraction is = is

either : {T : Type 0} (b : Bool) (x y : Result T Status) → EndsWell x → EndsWell y → EndsWell (if b then x else y)
either true x y own other = own
either false x y own other = other

spelled_well : (name : List ℕ) (read : Result LayerSpec Fault) → EndsWell (layer_spelled name read)
spelled_well name (Ok layer) = tt
spelled_well name (Err fault) = refusal_well name fault.line fault.why

file_well : (name : List ℕ) (file : Option (List ℕ)) → EndsWell (layer_of_file name file)
file_well name None = λ is. is
file_well name (Some bytes) =
    either (nat_lt byte_limit (length bytes)) (Err (Limit (File name) Bytes byte_limit)) (layer_spelled name (reads bytes)) (λ is. is) (spelled_well name (reads bytes))

more_well : (one : Result LayerSpec Status) (more : Result (List LayerSpec) Status) → EndsWell one → EndsWell more → EndsWell (with_layer one more)
more_well (Ok layer) (Ok layers) own other = tt
more_well (Ok layer) (Err status) own other = other
more_well (Err status) more own other = own

layers_well : (files : FileMap) (names : List (List ℕ)) → EndsWell (layers_in files names)
layers_well files [] = tt
layers_well files (name ∷ names) = more_well (layer_in files name) (layers_in files names) (file_well name (bytes_of files name)) (layers_well files names)

script_well : (name : List ℕ) (file : Option (List ℕ)) → EndsWell (script_of_file name file)
script_well name None = λ is. is
script_well name (Some bytes) = either (nat_lt byte_limit (length bytes)) (Err (Limit (File name) Bytes byte_limit)) (Ok bytes) (λ is. is) tt

lines_well : (name : List ℕ) (status : Status) → EndsScript name status → ¬ IsInterruption status
lines_well name WriteFault ends is = ends
lines_well name NoMemory ends is = ends
lines_well name Done ends is = is
lines_well name Usage ends is = is
lines_well name (Layer file line cause) ends is = is
lines_well name (Script line cause) ends is = is
lines_well name (Limit place which count) ends is = is
lines_well name (ReadFault file) ends is = is

stepped_well : (name tiles : List ℕ) (layers : Result (List LayerSpec) Status) (script : Result (List ℕ) Status) → EndsWell layers → EndsWell script
    → ¬ IsInterruption (step_if_read name tiles layers script).ending
stepped_well name tiles (Ok layers) (Ok script) own other =
    lines_well name (outcome_of_lines name 1 (opening_state layers) tiles (lines_of script)).ending (script_ends name 1 (opening_state layers) tiles (lines_of script))
stepped_well name tiles (Ok layers) (Err status) own other = other
stepped_well name tiles (Err status) script own other = own

either_ending : (b : Bool) (x y : Outcome) → ¬ IsInterruption x.ending → ¬ IsInterruption y.ending → ¬ IsInterruption (if b then x else y).ending
either_ending true x y own other = own
either_ending false x y own other = other

drawn_well : (name out : List ℕ) (read : Result LayerSpec Status) → EndsWell read → ¬ IsInterruption (draw_if_read name out read).ending
drawn_well name out (Ok layer) own =
    either_ending (nat_lt triangle_limit (length (layer_frame layer).tris)) (refusal_outcome (Limit (File name) Triangles triangle_limit))
    (picture_outcome out (ppm 64 64 (picture (layer_frame layer)))) (λ is. is) (λ is. is)
drawn_well name out (Err status) own = own

of_program : (files : FileMap) (program : Option Program) (tiles : List ℕ) → ¬ IsInterruption (outcome_of files program tiles).ending
of_program files None tiles = λ is. is
of_program files (Some (draw layer out)) tiles = drawn_well layer out (layer_in files layer) (file_well layer (bytes_of files layer))
of_program files (Some (step layers script)) tiles =
    either_ending (nat_lt (limit_of Layers) (length layers)) (refusal_outcome (Limit Words Layers (limit_of Layers))) (step_if_read script tiles (layers_in files layers) (script_in files script))
    (λ is. is) (stepped_well script tiles (layers_in files layers) (script_in files script) (layers_well files layers) (script_well script (bytes_of files script)))

pub outcomes_end_whole : OutcomesEndWhole
outcomes_end_whole words files tiles = of_program files (command words) tiles
