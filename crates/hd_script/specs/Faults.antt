-- Reading from left to right: each form gives its value, or the first fault that is met.
use Rattle.std.specs.Prelude.{◌≡◌, Result, Ok, Err}
use Rattle.hd_script.specs.declared.fault.LineFault.{LineFault}
use Rattle.hd_script.specs.declared.fault.LineFault.TheVariants.{Syntax, LeftOut, Fraction, Limit, NoMemory}

infixl 10 ◌>>=◌
abbrev pub ◌>>=◌ : {A B : Type 0} → Result A LineFault → (A → Result B LineFault) → Result B LineFault
(Ok x) >>= f = f x
(Err e) >>= f = Err e

-- what a function that failed says of what was to be read
abbrev pub Fails : {Y : Type 0} → LineFault → Result Y LineFault → Type 0
Fails NoMemory read = Unit {0}
Fails Syntax read = read ≡ Err Syntax
Fails LeftOut read = read ≡ Err LeftOut
Fails Fraction read = read ≡ Err Fraction
Fails (Limit which) read = read ≡ Err (Limit which)

-- what a function returned, seen by view, is what was to be read, but where memory ran out
abbrev pub Gives : {X Y : Type 0} → (X → Y) → Result X LineFault → Result Y LineFault → Type 0
Gives view (Ok x) read = read ≡ Ok (view x)
Gives view (Err e) read = Fails e read
