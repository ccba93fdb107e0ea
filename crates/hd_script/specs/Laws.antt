-- What follows from the definition of what a line asks for.
use Rattle.std.specs.Prelude.{◌≢◌, ℕ, List, Err}
use Rattle.hd_path.specs.declared.fault.PathFault.TheVariants as path
use Rattle.hd_path.specs.Parsing.{name_at, path_of_text}
use Rattle.hd_script.specs.declared.fault.LineFault.TheVariants.{NoMemory}
use Rattle.hd_script.specs.Commands.{reads_line}

-- out of memory is no fault of a line
abbrev pub LinesWantNoMemory : Type 0
LinesWantNoMemory = (line : List ℕ) → reads_line line ≢ Err NoMemory

-- nor of the text of a path
abbrev pub PathsWantNoMemory : Type 0
PathsWantNoMemory = (text : List ℕ) → path_of_text text ≢ Err path.NoMemory

-- nor of the text of a name
abbrev pub NamesWantNoMemory : Type 0
NamesWantNoMemory = (place before : ℕ) (text : List ℕ) → name_at place before text ≢ Err path.NoMemory
