-- A run over a shelf that may fail.
use Rattle.std.specs.Prelude.{◌≡◌, ◌+◌, ◌<◌, ◌⊎◌, ℕ, List, length, take, slice_get, All, Contains, Option, Some, None, IfSome, IsSomeAnd, IsOk}
use Rattle.hd_io.specs.Causes.{Rose}
use Rattle.hd_io.specs.Files.{FileMap}
use Rattle.hd_io.specs.Shelf.{ShelfState}
use Rattle.hd_app.specs.declared.status.Status.{Status}
use Rattle.hd_app.specs.declared.status.Status.TheVariants.{Done, Usage, Layer, Script, Limit, ReadFault, WriteFault, NoMemory}
use Rattle.hd_app.specs.declared.status.Place.{Place}
use Rattle.hd_app.specs.declared.status.Place.TheVariants.{Words, File, Line}
use Rattle.hd_layer.specs.declared.limits.Which.{Which}
use Rattle.hd_layer.specs.declared.limits.Which.TheVariants.{Layers, Bytes, Triangles}
use Rattle.hd_layer.specs.Limits.{limit_of}
use Rattle.hd_io.specs.Acts.{Outside, WroteCut}
use Rattle.hd_app.specs.Commands.{Program, draw, step, layer_names, file_names, HasFewLayers}
use Rattle.hd_app.specs.Outcomes.{outcome_of, layer_in, byte_limit}
use Rattle.hd_app.specs.Refusing.{refusal_outcome}

-- the file of this name is the open one
abbrev pub IsOpen : ShelfState → List ℕ → Type 0
IsOpen shelf file = shelf.opened ≡ Some file

-- one byte more than the limit was taken from the file of this name
pub record TookTooMuch (shelf : ShelfState) (file : List ℕ) : Type 0 where
  pub opened : IsOpen shelf file
  pub taken : shelf.taken ≡ byte_limit + 1

-- the files of these names spell layers
abbrev pub SpellLayers : FileMap → List (List ℕ) → Type 0
SpellLayers files names = All (λ name. IsOk (layer_in files name)) names

-- the file of this name is one that the command reads, which has no layer too many, and those that are read before it, where
-- they are told, spell layers
pub record IsReached (program : Program) (files : Option FileMap) (file : List ℕ) : Type 0 where
  pub few : HasFewLayers program
  pub place : ℕ
  pub named : slice_get (file_names program) place ≡ Some file
  pub before : IfSome files (λ map. SpellLayers map (take place (file_names program)))

abbrev pub HasScript : Program → Type 0
HasScript (draw layer out) = ⊥
HasScript (step layers script) = Unit {0}

abbrev pub HasPicture : Program → Type 0
HasPicture (draw layer out) = Unit {0}
HasPicture (step layers script) = ⊥

-- a file as a whole passes the limit of its bytes, of which one more was taken, or, where it is drawn, that of the triangles
abbrev pub FilePassesLimit : Program → ShelfState → (file : List ℕ) → Which → Type 0
FilePassesLimit program shelf file which = ((which ≡ Bytes) × TookTooMuch shelf file) ⊎ ((which ≡ Triangles) × HasPicture program × IsOpen shelf file)

-- a limit that is passed: that of the layers, by the words; and else one that the open file passes as a whole, or in a line
abbrev pub PassesLimit : Program → ShelfState → Place → Which → ℕ → Type 0
PassesLimit program shelf Words which count = (which ≡ Layers) × (count ≡ limit_of Layers) × (count < length (layer_names program))
PassesLimit program shelf (File file) which count = HasFewLayers program × Contains (file_names program) file × (count ≡ limit_of which) × FilePassesLimit program shelf file which
PassesLimit program shelf (Line file line) which count = HasFewLayers program × Contains (file_names program) file × (count ≡ limit_of which) × IsOpen shelf file

-- what an answer says of itself, whether or not the files are told: a file that it names is the one that is open, or the one at
-- which the shelf failed. A layer too many is answered by its limit alone
abbrev pub IsAnswerTo : Option Program → ShelfState → Status → Type 0
IsAnswerTo program shelf Done = IsSomeAnd program HasFewLayers
IsAnswerTo program shelf Usage = program ≡ None
IsAnswerTo program shelf (Layer file line why) = IsSomeAnd program (λ p. HasFewLayers p × Contains (layer_names p) file) × IsOpen shelf file
IsAnswerTo program shelf (Script line cause) = IsSomeAnd program (λ p. HasFewLayers p × HasScript p)
IsAnswerTo program shelf (Limit place which count) = IsSomeAnd program (λ p. PassesLimit p shelf place which count)
IsAnswerTo program shelf (ReadFault file) = IsSomeAnd program (λ p. IsReached p shelf.files file) × (shelf.failed ≡ Some file)
IsAnswerTo program shelf WriteFault = Unit {0}
IsAnswerTo program shelf NoMemory = Unit {0}

-- what an interrupted run has written: a beginning of what its files make it write, or, where the shelf failed, of the line that tells that
abbrev pub Interrupted : Option Program → FileMap → (tiles : List ℕ) → (shelf_before shelf_now : ShelfState) → (before now : Outside) → Type 0
Interrupted program files tiles shelf_before shelf_now before now =
    WroteCut (outcome_of files program tiles).acts before now
    ⊎ (Rose shelf_before.faults shelf_now.faults × IsSomeAnd shelf_now.failed (λ name. WroteCut (refusal_outcome (ReadFault name)).acts before now))
