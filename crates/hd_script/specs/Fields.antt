-- What a word says, and what its first fault is.
use Rattle.std.specs.Prelude.{ℕ, List, [], ◌∷◌, length, Bool, ◌&&◌, ◌||◌, not, ◌==◌, nat_le, nat_lt, Option, Result, Ok, Err, if◌then◌else◌, codes}
use Rattle.std.specs.List.{list_all}
use Rattle.std.specs.Str.{bytes_eq}
use Rattle.std.specs.Str.Parse.{digits_value}
use Rattle.hd_path.specs.declared.fault.PathFault.{PathFault}
use Rattle.hd_path.specs.declared.fault.PathFault.TheVariants as path
use Rattle.hd_path.specs.Names.{is_digit, is_word}
use Rattle.hd_path.specs.Parsing.{name_at, path_of_text}
use Rattle.hd_layer.specs.declared.fault.LayerWhy.{LayerWhy}
use Rattle.hd_layer.specs.declared.fault.LayerWhy.TheVariants as why
use Rattle.hd_layer.specs.declared.limits.Which.TheVariants.{Depth, Name, Frame}
use Rattle.hd_layer.specs.declared.spec.Property.{Property}
use Rattle.hd_usda.specs.reading.Cursor.{Fault}
use Rattle.hd_lexer.specs.Lexing.{begins}
use Rattle.hd_layer.specs.Limits.{limit_of}
use Rattle.hd_tokens.specs.Names.{is_joined}
use Rattle.hd_path.specs.Paths.{Path}
use Rattle.hd_usda.specs.Statement.{reads_property}
use Rattle.hd_script.specs.declared.fault.LineFault.{LineFault}
use Rattle.hd_script.specs.declared.fault.LineFault.TheVariants.{Syntax, LeftOut, Fraction, Limit}
use Rattle.hd_script.specs.Faults.{◌>>=◌}

-- one to nine digits
abbrev pub is_number : List ℕ → Bool
is_number text = nat_le 1 (length text) && nat_le (length text) 9 && list_all is_digit text

-- a number
unfoldable pub number : List ℕ → Result ℕ LineFault
number text = if is_number text then Ok (digits_value 10 text) else Err Syntax

-- a number as a width or a height
abbrev pub within_frame : ℕ → Result ℕ LineFault
within_frame n =
    if n == 0 then Err Syntax
    else (if nat_lt (limit_of Frame) n then Err (Limit Frame)
    else Ok n)

-- the width or the height of a frame
unfoldable pub size : List ℕ → Result ℕ LineFault
size text = number text >>= within_frame

-- a letter, a digit, `_`, `-` or `.`
abbrev pub is_name_byte : ℕ → Bool
is_name_byte b = is_word b || (b == 45) || (b == 46)

abbrev pub is_point : ℕ → Bool
is_point b = b == 46

-- one to 64 such bytes, of which the first is no point
abbrev pub is_file_name : List ℕ → Bool
is_file_name text = nat_le 1 (length text) && nat_le (length text) 64 && list_all is_name_byte text && not (begins is_point text)

-- the name of a file
unfoldable pub file_name : List ℕ → Result (List ℕ) LineFault
file_name text = if is_file_name text then Ok text else Err Syntax

-- what is wrong with a path, where lack of memory, which no text has, counts as syntax
abbrev pub path_fault : PathFault → LineFault
path_fault (path.Syntax at) = Syntax
path_fault path.TooDeep = Limit Depth
path_fault path.NameTooLong = Limit Name
path_fault path.NoMemory = Syntax

-- a name that was parsed
abbrev pub checked_name : Result (List ℕ) PathFault → Result (List ℕ) LineFault
checked_name (Ok name) = Ok name
checked_name (Err fault) = Err (path_fault fault)

-- an identifier within the limit, as the first name of a path is
abbrev pub identifier : List ℕ → Result (List ℕ) LineFault
identifier text = checked_name (name_at 0 0 text)

-- the type of a prim, where `-` is for none
unfoldable pub prim_type : List ℕ → Result (List ℕ) LineFault
prim_type text = if bytes_eq text (codes "-") then Ok [] else identifier text

-- a path that was parsed, if it is that of a prim
abbrev pub below_root : Result Path PathFault → Result Path LineFault
below_root (Ok []) = Err Syntax
below_root (Ok (name ∷ names)) = Ok (name ∷ names)
below_root (Err fault) = Err (path_fault fault)

-- the path of a prim
unfoldable pub prim_path : List ℕ → Result Path LineFault
prim_path text = below_root (path_of_text text)

-- the name of a property
unfoldable pub property_name : List ℕ → Result (List ℕ) LineFault
property_name text = if is_joined text then Ok text else Err Syntax

-- what is wrong with a property, where the last three, which only a layer has, count as syntax
abbrev pub property_fault : LayerWhy → LineFault
property_fault why.Syntax = Syntax
property_fault why.LeftOut = LeftOut
property_fault why.Fraction = Fraction
property_fault (why.Limit which) = Limit which
property_fault why.Header = Syntax
property_fault why.NotUtf8 = Syntax
property_fault why.Twice = Syntax

-- a property that was read
abbrev pub on_line : Result (Option Property) Fault → Result (Option Property) LineFault
on_line (Ok found) = Ok found
on_line (Err fault) = Err (property_fault fault.why)

-- a property with its value, if it is a used one
unfoldable pub property : List ℕ → Result (Option Property) LineFault
property text = on_line (reads_property text)
