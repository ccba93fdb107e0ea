-- What a run does to the outside: files and lines, one after the other.
use Rattle.std.specs.Prelude.{◌≡◌, ◌≤◌, ◌⊎◌, ℕ, List, [], ◌∷◌, ◌++◌, length, take, Bool, false}
use Rattle.std.specs.Option.{option_map}
use Rattle.hd_io.specs.declared.fault.OutsideFault.{OutsideFault}
use Rattle.hd_io.specs.declared.fault.OutsideFault.TheVariants as faults
use Rattle.hd_io.specs.Causes.{Rose}
use Rattle.hd_io.specs.Files.{FileList}
use Rattle.hd_io.specs.Rack.{RackState}
use Rattle.hd_io.specs.Sink.{SinkState}

pub data Act : Type 0 where
  file : (name bytes : List ℕ) → Act
  line : (bytes : List ℕ) → Act

-- the files that acts make, in order
abbrev pub files_of : List Act → FileList
files_of [] = []
files_of (file name bytes ∷ acts) = (name, bytes) ∷ files_of acts
files_of (line bytes ∷ acts) = files_of acts

-- the lines that acts make, one after the other
abbrev pub text_of : List Act → List ℕ
text_of [] = []
text_of (file name bytes ∷ acts) = text_of acts
text_of (line bytes ∷ acts) = bytes ++ text_of acts

-- What an interrupted run can have made of acts: nothing; a beginning of the first; or the whole first, and then of the rest.
abbrev pub Cut : List Act → FileList → List ℕ → Type 0
Cut [] files text = (files ≡ []) × (text ≡ [])
Cut (file name bytes ∷ acts) files text =
    ((files ≡ []) × (text ≡ []))
    ⊎ (((n : ℕ) × (n ≤ length bytes) × (files ≡ (name, take n bytes) ∷ []) × (text ≡ []))
    ⊎ ((rest : FileList) × (files ≡ (name, bytes) ∷ rest) × Cut acts rest text))
Cut (line bytes ∷ acts) files text =
    ((files ≡ []) × (text ≡ []))
    ⊎ (((n : ℕ) × (n ≤ length bytes) × (files ≡ []) × (text ≡ take n bytes))
    ⊎ ((rest : List ℕ) × (text ≡ bytes ++ rest) × Cut acts files rest))

-- whether the rack's last file is open after acts that were made whole: a file is closed, and a line leaves that as it was
abbrev pub open_after : List Act → Bool → Bool
open_after [] is_open = is_open
open_after (file name bytes ∷ acts) is_open = open_after acts false
open_after (line bytes ∷ acts) is_open = open_after acts is_open

-- what is written to
pub record Outside : Type 0 where
  pub rack : RackState
  pub sink : SinkState

-- these files and this text were added
pub record Adds (files : FileList) (text : List ℕ) (before now : Outside) : Type 0 where
  pub files_added : now.rack.files ≡ option_map (λ held. held ++ files) before.rack.files
  pub text_added : now.sink.text ≡ option_map (λ held. held ++ text) before.sink.text

-- the acts were made whole, and nothing else
pub record Wrote (acts : List Act) (before now : Outside) : Type 0 where
  pub added : Adds (files_of acts) (text_of acts) before now
  pub is_open : now.rack.is_open ≡ open_after acts before.rack.is_open

-- the acts were made, or interrupted, and nothing else
abbrev pub WroteCut : List Act → (before now : Outside) → Type 0
WroteCut acts before now = (files : FileList) × (text : List ℕ) × Cut acts files text × Adds files text before now

-- neither the rack nor the sink failed
pub record NoFault (before now : Outside) : Type 0 where
  pub rack : now.rack.faults ≡ before.rack.faults
  pub sink : now.sink.faults ≡ before.sink.faults

-- the rack or the sink failed
abbrev pub WriteFailed : (before now : Outside) → Type 0
WriteFailed before now = Rose before.rack.faults now.rack.faults ⊎ Rose before.sink.faults now.sink.faults

-- why a write ended: the rack or the sink failed, or memory ran out
abbrev pub WriteCause : (before now : Outside) → OutsideFault → Type 0
WriteCause before now faults.Failed = WriteFailed before now
WriteCause before now faults.NoMemory = NoFault before now
