-- What the forms over the system tell. The bytes of a file are told where the system's own file tells them, as one of a test can.
use Rattle.std.specs.Prelude.{ℕ, Bool, List, Option, None}
use Rattle.hd_io.specs.Rack.{RackState}
use Rattle.hd_io.specs.Shelf.{ShelfState}
use Rattle.hd_io.specs.Sink.{SinkState}

-- what a shelf over files tells, with the bytes that the open file has left
pub record FileShelfState : Type 0 where
  pub opened : Option (List ℕ)
  pub taken : ℕ
  pub left : Option (List ℕ)
  pub faults : ℕ
  pub failed : Option (List ℕ)

-- what it says of itself as a shelf: no files
abbrev pub shelf_state : FileShelfState → ShelfState
shelf_state shelf = record { files = None; opened = shelf.opened; taken = shelf.taken; faults = shelf.faults; failed = shelf.failed }

-- what a rack over files tells, with the bytes that the open file holds
pub record FileRackState : Type 0 where
  pub is_open : Bool
  pub bytes : Option (List ℕ)
  pub faults : ℕ

-- what it says of itself as a rack: no files
abbrev pub rack_state : FileRackState → RackState
rack_state rack = record { files = None; is_open = rack.is_open; offers = None; faults = rack.faults }

-- what a sink to a writer tells, with the bytes that the writer holds
pub record OutSinkState : Type 0 where
  pub bytes : Option (List ℕ)
  pub faults : ℕ

-- what it says of itself as a sink: no bytes
abbrev pub sink_state : OutSinkState → SinkState
sink_state sink = record { text = None; offers = None; faults = sink.faults }
