-- What reading a file whole says of the shelf.
use Rattle.std.specs.Prelude.{◌≡◌, ◌<◌, ℕ, List, length, Option, IfSome, IsSomeAnd, Some, Result, Ok, Err}
use Rattle.hd_app.specs.declared.reading.ReadStop.{ReadStop}
use Rattle.hd_app.specs.declared.reading.ReadStop.TheVariants.{Failed, TooLong, NoMemory}
use Rattle.hd_io.specs.declared.fault.OutsideFault.{OutsideFault}
use Rattle.hd_io.specs.declared.fault.OutsideFault.TheVariants as faults
use Rattle.hd_io.specs.Files.{FileMap, open_bytes}
use Rattle.hd_app.specs.Outcomes.{byte_limit}

-- P, but where the shelf failed
abbrev pub UnlessFailed : {T : Type 0} → Result T ReadStop → Type 0 → Type 0
UnlessFailed (Ok value) P = P
UnlessFailed (Err Failed) P = Unit {0}
UnlessFailed (Err TooLong) P = P
UnlessFailed (Err NoMemory) P = P

-- a fault of the shelf ends a reading
abbrev pub StopsAs : OutsideFault → ReadStop → Type 0
StopsAs faults.Failed stop = stop ≡ Failed
StopsAs faults.NoMemory stop = stop ≡ NoMemory

-- where the shelf tells its files, the open one has these bytes
abbrev pub HoldsOpen : Option FileMap → Option (List ℕ) → List ℕ → Type 0
HoldsOpen files opened bytes = IfSome files (λ map. IsSomeAnd (open_bytes map opened) (λ file. file ≡ bytes))

-- where the shelf tells its files, the open one has more bytes than the limit
abbrev pub HoldsOpenTooMuch : Option FileMap → Option (List ℕ) → Type 0
HoldsOpenTooMuch files opened = IfSome files (λ map. IsSomeAnd (open_bytes map opened) (λ file. byte_limit < length file))

-- where the shelf tells its files, the file of this name has these bytes
abbrev pub Holds : Option FileMap → List ℕ → List ℕ → Type 0
Holds files name bytes = HoldsOpen files (Some name) bytes

-- where the shelf tells its files, the file of this name has more bytes than the limit
abbrev pub HoldsTooMuch : Option FileMap → List ℕ → Type 0
HoldsTooMuch files name = HoldsOpenTooMuch files (Some name)
