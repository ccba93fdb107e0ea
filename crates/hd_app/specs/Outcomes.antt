-- What the program writes, and how it ends, by its words and the files that it reads.
use Rattle.std.specs.Prelude.{ℕ, ◌++◌, List, [], ◌∷◌, length, Option, Some, None, Result, Ok, Err, nat_lt, codes, if◌then◌else◌}
use Rattle.hd_picture.specs.declared.draws.Draws.{Draws}
use Rattle.hd_picture.specs.define.Pixels.{picture}
use Rattle.hd_picture.specs.Ppm.{ppm}
use Rattle.hd_draws.specs.Cameras.{default_eye}
use Rattle.hd_draws.specs.DrawList.{draw_list}
use Rattle.hd_layer.specs.declared.fault.LayerWhy.{LayerWhy}
use Rattle.hd_layer.specs.declared.fault.LayerWhy.TheVariants as why
use Rattle.hd_layer.specs.declared.limits.Which.TheVariants.{Layers, Bytes, Triangles}
use Rattle.hd_layer.specs.declared.spec.LayerSpec.{LayerSpec}
use Rattle.hd_usda.specs.reading.Cursor.{Fault}
use Rattle.hd_usda.specs.Layer.{reads}
use Rattle.hd_layer.specs.Limits.{limit_of}
use Rattle.hd_io.specs.Acts.{file, line}
use Rattle.hd_io.specs.Files.{FileMap, bytes_of}
use Rattle.hd_retained.specs.Layers.{layer_of}
use Rattle.hd_attributes.specs.Rows.{index}
use Rattle.hd_session.specs.States.{opening_state}
use Rattle.hd_app.specs.declared.status.Status.{Status}
use Rattle.hd_app.specs.declared.status.Status.TheVariants.{Done, Usage, Layer, Limit, ReadFault}
use Rattle.hd_app.specs.declared.status.Place.TheVariants.{Words, File, Line}
use Rattle.hd_app.specs.Commands.{Program, draw, step, command}
use Rattle.hd_app.specs.Refusing.{Outcome, refusal_outcome}
use Rattle.hd_app.specs.Scripts.{lines_of, outcome_of_lines}

-- the frame of a drawn layer: its index, seen from the default place, in 64 by 64 pixels
abbrev pub layer_frame : LayerSpec → Draws
layer_frame layer = record { tris = draw_list (index (layer_of layer ∷ [])); eye = default_eye; width = 64; height = 64 }

abbrev pub frame_line : List ℕ → List ℕ
frame_line name = codes "frame " ++ name ++ codes " converged 16 of 16\n"

-- a picture's file, and the line of its frame
abbrev pub picture_outcome : (out bytes : List ℕ) → Outcome
picture_outcome out bytes = record { acts = file out bytes ∷ line (frame_line out) ∷ []; ending = Done }

-- the limit of the triangles that a frame draws
abbrev pub triangle_limit : ℕ
triangle_limit = limit_of Triangles

-- the picture of the layer of this name, or the refusal of one that draws too many triangles
abbrev pub draw_outcome : (name out : List ℕ) → LayerSpec → Outcome
draw_outcome name out layer =
    if nat_lt triangle_limit (length (layer_frame layer).tris) then refusal_outcome (Limit (File name) Triangles triangle_limit)
    else picture_outcome out (ppm 64 64 (picture (layer_frame layer)))

-- the refusal of a file with this fault in the line of this number: a limit that is passed there, or what else is wrong
abbrev pub refusal_at : (name : List ℕ) (number : ℕ) → LayerWhy → Status
refusal_at name number (why.Limit which) = Limit (Line name number) which (limit_of which)
refusal_at name number cause = Layer name number cause

-- the most bytes that a layer or the script may have
abbrev pub byte_limit : ℕ
byte_limit = limit_of Bytes

-- the layer that a file's bytes spell, or the refusal of their first fault
abbrev pub layer_spelled : List ℕ → Result LayerSpec Fault → Result LayerSpec Status
layer_spelled name (Ok layer) = Ok layer
layer_spelled name (Err fault) = Err (refusal_at name fault.line fault.why)

abbrev pub layer_of_bytes : List ℕ → List ℕ → Result LayerSpec Status
layer_of_bytes name bytes =
    if nat_lt byte_limit (length bytes) then Err (Limit (File name) Bytes byte_limit) else layer_spelled name (reads bytes)

-- the layer of this name, or the refusal
abbrev pub layer_of_file : List ℕ → Option (List ℕ) → Result LayerSpec Status
layer_of_file name None = Err (ReadFault name)
layer_of_file name (Some bytes) = layer_of_bytes name bytes

abbrev pub layer_in : FileMap → List ℕ → Result LayerSpec Status
layer_in files name = layer_of_file name (bytes_of files name)

-- the picture of a layer that was read
abbrev pub draw_if_read : (name out : List ℕ) → Result LayerSpec Status → Outcome
draw_if_read name out (Ok layer) = draw_outcome name out layer
draw_if_read name out (Err status) = refusal_outcome status

-- one more layer
abbrev pub with_layer : Result LayerSpec Status → Result (List LayerSpec) Status → Result (List LayerSpec) Status
with_layer (Ok layer) (Ok layers) = Ok (layer ∷ layers)
with_layer (Ok layer) (Err status) = Err status
with_layer (Err status) layers = Err status

-- the layers of these names, or the refusal of the first that is refused
abbrev pub layers_in : FileMap → List (List ℕ) → Result (List LayerSpec) Status
layers_in files [] = Ok []
layers_in files (name ∷ names) = with_layer (layer_in files name) (layers_in files names)

-- the bytes of a script, or the refusal
abbrev pub script_of_file : List ℕ → Option (List ℕ) → Result (List ℕ) Status
script_of_file name None = Err (ReadFault name)
script_of_file name (Some bytes) = if nat_lt byte_limit (length bytes) then Err (Limit (File name) Bytes byte_limit) else Ok bytes

abbrev pub script_in : FileMap → List ℕ → Result (List ℕ) Status
script_in files name = script_of_file name (bytes_of files name)

-- the script of this name over layers, where all were read
abbrev pub step_if_read : (name tiles : List ℕ) → Result (List LayerSpec) Status → Result (List ℕ) Status → Outcome
step_if_read name tiles (Ok layers) (Ok script) = outcome_of_lines name 1 (opening_state layers) tiles (lines_of script)
step_if_read name tiles (Ok layers) (Err status) = refusal_outcome status
step_if_read name tiles (Err status) script = refusal_outcome status

-- the script over the layers; there are at most eight
abbrev pub step_outcome : FileMap → List (List ℕ) → (script tiles : List ℕ) → Outcome
step_outcome files layers script tiles =
    if nat_lt (limit_of Layers) (length layers) then refusal_outcome (Limit Words Layers (limit_of Layers))
    else step_if_read script tiles (layers_in files layers) (script_in files script)

abbrev pub outcome_of : FileMap → Option Program → (tiles : List ℕ) → Outcome
outcome_of files None tiles = refusal_outcome Usage
outcome_of files (Some (draw layer out)) tiles = draw_if_read layer out (layer_in files layer)
outcome_of files (Some (step layers script)) tiles = step_outcome files layers script tiles

-- what is written for these words over these files, and the status; frames that end before they are drawn whole have these counts
-- of tiles, in order
abbrev pub outcome : List (List ℕ) → FileMap → (tiles : List ℕ) → Outcome
outcome words files tiles = outcome_of files (command words) tiles
