-- Why the files of a command were not read, step by step.
use Rattle.std.specs.Prelude.{◌≡◌, ◌+◌, ◌≤◌, ◌⊎◌, ℕ, List, [], take, slice_get, Some, IfSome, max, Err}
use Rattle.hd_io.specs.Causes.{Rose}
use Rattle.hd_app.specs.declared.status.Status.{Status}
use Rattle.hd_app.specs.declared.status.Status.TheVariants.{Done, Usage, Layer, Script, Limit, ReadFault, WriteFault, NoMemory}
use Rattle.hd_app.specs.declared.status.Place.{Place}
use Rattle.hd_app.specs.declared.status.Place.TheVariants.{Words, File, Line}
use Rattle.hd_app.specs.declared.reading.ReadStop.{ReadStop}
use Rattle.hd_app.specs.declared.reading.ReadStop.TheVariants.{Failed, TooLong}
use Rattle.hd_app.specs.declared.reading.ReadStop.TheVariants as stops
use Rattle.hd_layer.specs.declared.fault.LayerFault.{LayerFault}
use Rattle.hd_layer.specs.declared.fault.LayerFault.TheVariants.{At}
use Rattle.hd_layer.specs.declared.fault.LayerFault.TheVariants as faults
use Rattle.hd_layer.specs.declared.limits.Which.{Which}
use Rattle.hd_layer.specs.declared.limits.Which.TheVariants.{Bytes}
use Rattle.hd_layer.specs.Limits.{limit_of}
use Rattle.hd_app.specs.Commands.{Program}
use Rattle.hd_app.specs.Outcomes.{outcome_of, refusal_at, layer_in, layer_of_bytes, script_in, byte_limit}
use Rattle.hd_app.specs.Refusing.{refusal_outcome}
use Rattle.hd_io.specs.Shelf.{ShelfState}
use Rattle.hd_app.specs.Runs.{IsOpen, TookTooMuch, SpellLayers, IsReached, IsAnswerTo}

-- the shelf failed at the file of this name
pub record FailedAt (name : List ℕ) (before now : ShelfState) : Type 0 where
  pub rose : Rose before.faults now.faults
  pub named : now.failed ≡ Some name

-- a reading takes at most one byte more than the limit, and changes no file
pub record ReadsWithin (before now : ShelfState) : Type 0 where
  pub files : now.files ≡ before.files
  pub taken : now.taken ≤ max before.taken (byte_limit + 1)

-- a limit that the text of this file, which is open, passes: that of its bytes, of which one more was taken, or one in a line
abbrev pub TextPassesLimit : List ℕ → ShelfState → Place → Which → ℕ → Type 0
TextPassesLimit name shelf (File file) which count = (file ≡ name) × (which ≡ Bytes) × (count ≡ byte_limit) × TookTooMuch shelf file
TextPassesLimit name shelf (Line file line) which count = (file ≡ name) × (count ≡ limit_of which) × IsOpen shelf file
TextPassesLimit name shelf Words which count = ⊥

-- why the layer of this name was refused
abbrev pub RefusesLayer : List ℕ → (before now : ShelfState) → Status → Type 0
RefusesLayer name before now (ReadFault file) = (file ≡ name) × FailedAt name before now
RefusesLayer name before now (Layer file line why) =
    (now.faults ≡ before.faults) × (file ≡ name) × IsOpen now file × IfSome before.files (λ files. layer_in files name ≡ Err (Layer file line why))
RefusesLayer name before now (Limit place which count) =
    (now.faults ≡ before.faults) × TextPassesLimit name now place which count × IfSome before.files (λ files. layer_in files name ≡ Err (Limit place which count))
RefusesLayer name before now NoMemory = now.faults ≡ before.faults
RefusesLayer name before now (Script line cause) = ⊥
RefusesLayer name before now Done = ⊥
RefusesLayer name before now Usage = ⊥
RefusesLayer name before now WriteFault = ⊥

-- the refusal of a file that was not read to its end
abbrev pub status_of_stop : List ℕ → ReadStop → Status
status_of_stop file Failed = ReadFault file
status_of_stop file TooLong = Limit (File file) Bytes byte_limit
status_of_stop file stops.NoMemory = NoMemory

-- the refusal of a file that spells no layer
abbrev pub status_of_fault : List ℕ → LayerFault → Status
status_of_fault file (At line why) = refusal_at file line why
status_of_fault file faults.NoMemory = NoMemory

-- the bytes of this file, which are no more than the limit, spell no layer
abbrev pub RefusesBytes : List ℕ → List ℕ → Status → Type 0
RefusesBytes file bytes (Layer named line why) = (named ≡ file) × (layer_of_bytes file bytes ≡ Err (Layer named line why))
RefusesBytes file bytes NoMemory = Unit {0}
RefusesBytes file bytes (ReadFault named) = ⊥
RefusesBytes file bytes (Limit (Line named line) which count) = (named ≡ file) × (count ≡ limit_of which) × (layer_of_bytes file bytes ≡ Err (Limit (Line named line) which count))
RefusesBytes file bytes (Limit (File named) which count) = ⊥
RefusesBytes file bytes (Limit Words which count) = ⊥
RefusesBytes file bytes (Script line cause) = ⊥
RefusesBytes file bytes Done = ⊥
RefusesBytes file bytes Usage = ⊥
RefusesBytes file bytes WriteFault = ⊥

-- the layer of one of these names was refused, and those before it, where they are told, spell layers
pub record RefusesOneLayer (names : List (List ℕ)) (before now : ShelfState) (status : Status) : Type 0 where
  pub place : ℕ
  pub name : List ℕ
  pub named : slice_get names place ≡ Some name
  pub before_it : IfSome before.files (λ files. SpellLayers files (take place names))
  pub refusal : RefusesLayer name before now status

-- why the layers of these names were refused: one of them was, or memory ran out
abbrev pub RefusesLayers : List (List ℕ) → (before now : ShelfState) → Status → Type 0
RefusesLayers names before now status = RefusesOneLayer names before now status ⊎ ((status ≡ NoMemory) × (now.faults ≡ before.faults))

-- why the script of this name was not read
abbrev pub RefusesScript : List ℕ → (before now : ShelfState) → Status → Type 0
RefusesScript name before now (ReadFault file) = (file ≡ name) × FailedAt name before now
RefusesScript name before now (Limit place which count) =
    (now.faults ≡ before.faults) × (place ≡ File name) × (which ≡ Bytes) × (count ≡ byte_limit) × TookTooMuch now name
    × IfSome before.files (λ files. script_in files name ≡ Err (Limit place which count))
RefusesScript name before now NoMemory = now.faults ≡ before.faults
RefusesScript name before now (Layer file line why) = ⊥
RefusesScript name before now (Script line cause) = ⊥
RefusesScript name before now Done = ⊥
RefusesScript name before now Usage = ⊥
RefusesScript name before now WriteFault = ⊥

-- a refusal by the words or the files of a command, which tells all that the command writes
pub record TellsRefusal (program : Program) (before now : ShelfState) (status : Status) : Type 0 where
  pub faults : now.faults ≡ before.faults
  pub answer : IsAnswerTo (Some program) now status
  pub told : IfSome before.files (λ files. outcome_of files (Some program) [] ≡ refusal_outcome status)

-- why the files of a command were not read
abbrev pub RefusesFiles : Program → (before now : ShelfState) → Status → Type 0
RefusesFiles program before now (ReadFault file) = IsReached program before.files file × FailedAt file before now
RefusesFiles program before now (Layer file line why) = TellsRefusal program before now (Layer file line why)
RefusesFiles program before now (Limit place which count) = TellsRefusal program before now (Limit place which count)
RefusesFiles program before now NoMemory = now.faults ≡ before.faults
RefusesFiles program before now (Script line cause) = ⊥
RefusesFiles program before now Done = ⊥
RefusesFiles program before now Usage = ⊥
RefusesFiles program before now WriteFault = ⊥
