-- The commands of a script: what is in the line of each, word by word, and what the line asks for.
use Rattle.std.specs.Prelude.{ℕ, List, [], ◌∷◌, Option, Some, None, Result, Ok, Err, if◌then◌else◌, codes}
use Rattle.std.specs.Str.{bytes_eq, is_utf8}
use Rattle.hd_layer.specs.declared.edit.Edit.TheVariants.{Define, Set, Clear, Remove, Rename}
use Rattle.hd_path.specs.Paths.{Path}
use Rattle.hd_script.specs.declared.command.Command.{Command}
use Rattle.hd_script.specs.declared.command.Command.TheVariants.{Layer, Edit, Commit, Dump, Report, Start, Tiles, Pause, Resume, Stop, Wait}
use Rattle.hd_script.specs.declared.fault.LineFault.{LineFault}
use Rattle.hd_script.specs.declared.fault.LineFault.TheVariants.{Syntax}
use Rattle.hd_script.specs.Faults.{◌>>=◌}
use Rattle.hd_script.specs.Lines.{Word, words, without_return, is_nothing}
use Rattle.hd_script.specs.Fields.{number, size, file_name, prim_type, prim_path, property_name, property}

-- the next word as the form reads it, and the words after it
abbrev pub field : {A : Type 0} → (List ℕ → Result A LineFault) → List Word → Result (A × List Word) LineFault
field form [] = Err Syntax
field form (w ∷ ws) = form w.text >>= λ value. Ok (value, ws)

-- no word is left
abbrev pub ends : List Word → Result (List Word) LineFault
ends [] = Ok []
ends (w ∷ ws) = Err Syntax

-- a command of one word
unfoldable pub alone : Command → List Word → Result Command LineFault
alone command ws = do
  end ← ends ws
  Ok command

-- layer NUMBER
unfoldable pub layer : List Word → Result Command LineFault
layer ws = do
  number ← field number ws
  end ← ends number.1
  Ok (Layer number.0)

-- def TYPE PATH
unfoldable pub define : List Word → Result Command LineFault
define ws = do
  kind ← field prim_type ws
  path ← field prim_path kind.1
  end ← ends path.1
  Ok (Edit (Define kind.0 path.0))

-- set PATH PROPERTY, where all that is after the path is the property
unfoldable pub set : List Word → Result Command LineFault
set [] = Err Syntax
set (w ∷ ws) = do
  path ← prim_path w.text
  property ← property w.after
  Ok (Edit (Set path property))

-- clear PATH NAME
unfoldable pub clear : List Word → Result Command LineFault
clear ws = do
  path ← field prim_path ws
  name ← field property_name path.1
  end ← ends name.1
  Ok (Edit (Clear path.0 name.0))

-- remove PATH
unfoldable pub remove : List Word → Result Command LineFault
remove ws = do
  path ← field prim_path ws
  end ← ends path.1
  Ok (Edit (Remove path.0))

-- rename PATH PATH
unfoldable pub rename : List Word → Result Command LineFault
rename ws = do
  from ← field prim_path ws
  to ← field prim_path from.1
  end ← ends to.1
  Ok (Edit (Rename from.0 to.0))

-- dump NAME
unfoldable pub dump : List Word → Result Command LineFault
dump ws = do
  name ← field file_name ws
  end ← ends name.1
  Ok (Dump name.0)

-- [PATH] at the end of a line
unfoldable pub last_path : List Word → Result (Option Path) LineFault
last_path [] = Ok None
last_path (w ∷ ws) = do
  path ← prim_path w.text
  end ← ends ws
  Ok (Some path)

-- start NAME WIDTH HEIGHT [PATH]
unfoldable pub start : List Word → Result Command LineFault
start ws = do
  name ← field file_name ws
  width ← field size name.1
  height ← field size width.1
  camera ← last_path height.1
  Ok (Start name.0 width.0 height.0 camera)

-- tiles NUMBER
unfoldable pub tiles : List Word → Result Command LineFault
tiles ws = do
  count ← field number ws
  end ← ends count.1
  Ok (Tiles count.0)

-- the command that the first word names, with the words after it
unfoldable pub named_command : List ℕ → List Word → Result Command LineFault
named_command name ws =
    if bytes_eq name (codes "layer") then layer ws
    else (if bytes_eq name (codes "def") then define ws
    else (if bytes_eq name (codes "set") then set ws
    else (if bytes_eq name (codes "clear") then clear ws
    else (if bytes_eq name (codes "remove") then remove ws
    else (if bytes_eq name (codes "rename") then rename ws
    else (if bytes_eq name (codes "commit") then alone Commit ws
    else (if bytes_eq name (codes "dump") then dump ws
    else (if bytes_eq name (codes "report") then alone Report ws
    else (if bytes_eq name (codes "start") then start ws
    else (if bytes_eq name (codes "tiles") then tiles ws
    else (if bytes_eq name (codes "pause") then alone Pause ws
    else (if bytes_eq name (codes "resume") then alone Resume ws
    else (if bytes_eq name (codes "stop") then alone Stop ws
    else (if bytes_eq name (codes "wait") then alone Wait ws
    else Err Syntax))))))))))))))

-- the command of a line with a word
unfoldable pub command_in : List Word → Result Command LineFault
command_in [] = Err Syntax
command_in (w ∷ ws) = named_command w.text ws

-- a text that is UTF-8
unfoldable pub valid_text : List ℕ → Result (List ℕ) LineFault
valid_text text = if is_utf8 text then Ok text else Err Syntax

-- what a line without its carriage return asks for
unfoldable pub reads_text : List ℕ → Result (Option Command) LineFault
reads_text text =
    if is_nothing text then Ok None
    else (do
      valid ← valid_text text
      command ← command_in (words valid)
      Ok (Some command))

-- the command that a line without its line feed spells, none for a blank line or a comment, or the line's first fault
unfoldable pub reads_line : List ℕ → Result (Option Command) LineFault
reads_line line = reads_text (without_return line)
