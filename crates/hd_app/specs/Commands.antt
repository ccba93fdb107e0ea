-- The commands of the program, by the words that follow its name.
use Rattle.std.specs.Prelude.{ℕ, ◌-◌, ◌≤◌, List, [], ◌∷◌, ◌++◌, length, take, slice_index_or, Option, Some, None, nat_lt, codes, if◌then◌else◌}
use Rattle.std.specs.Str.{bytes_eq}
use Rattle.hd_layer.specs.declared.limits.Which.TheVariants.{Layers}
use Rattle.hd_layer.specs.Limits.{limit_of}

-- draw LAYER OUT: one layer to one picture. step LAYER.. SCRIPT: layers, of which the first is the strongest, and a script
pub data Program : Type 0 where
  draw : (layer out : List ℕ) → Program
  step : (layers : List (List ℕ)) (script : List ℕ) → Program

abbrev pub draw_of : List (List ℕ) → Option Program
draw_of (layer ∷ out ∷ []) = Some (draw layer out)
draw_of [] = None
draw_of (layer ∷ []) = None
draw_of (layer ∷ out ∷ more ∷ words) = None

-- the last word names the script, and the others, of which there is one at least, the layers
abbrev pub step_of : List (List ℕ) → Option Program
step_of words =
    if nat_lt (length words) 2 then None
    else Some (step (take (length words - 1) words) (slice_index_or words (length words - 1) []))

-- the command that the words spell, if they spell one
abbrev pub command : List (List ℕ) → Option Program
command [] = None
command (word ∷ words) =
    if bytes_eq word (codes "draw") then draw_of words
    else (if bytes_eq word (codes "step") then step_of words
    else None)

-- the names of the layers' files
abbrev pub layer_names : Program → List (List ℕ)
layer_names (draw layer out) = layer ∷ []
layer_names (step layers script) = layers

-- a command has no more layers than it may have
abbrev pub HasFewLayers : Program → Type 0
HasFewLayers program = length (layer_names program) ≤ limit_of Layers

-- the names of all files that are read, in the order of reading
abbrev pub file_names : Program → List (List ℕ)
file_names (draw layer out) = layer ∷ []
file_names (step layers script) = layers ++ script ∷ []
