-- What a call answers that may also want memory.
use Rattle.std.specs.Prelude.{◌≡◌, ◌⊎◌, Result, Ok, Err, MatchResult}
use Rattle.hd_path.specs.declared.fault.PathFault.{PathFault}
use Rattle.hd_path.specs.declared.fault.PathFault.TheVariants.{NoMemory}

-- the answer is the expected one, or there was no memory for it
abbrev pub Gives : {T : Type 0} → Result T PathFault → Result T PathFault → Type 0
Gives expected answer = MatchResult answer (λ value. expected ≡ Ok value) (λ fault. (fault ≡ NoMemory) ⊎ (expected ≡ Err fault))
