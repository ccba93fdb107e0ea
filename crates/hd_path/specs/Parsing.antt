-- The names that a text spells, or its first fault from the left.
use Rattle.std.specs.Prelude.{ℕ, ◌+◌, Bool, ◌==◌, nat_lt, if◌then◌else◌, List, [], ◌∷◌, length, Result, Ok, Err}
use Rattle.std.specs.List.{slice_split}
use Rattle.hd_path.specs.declared.fault.PathFault.{PathFault}
use Rattle.hd_path.specs.declared.fault.PathFault.TheVariants.{Syntax, TooDeep, NameTooLong}
use Rattle.hd_path.specs.Names.{Name, identifier_len}
use Rattle.hd_path.specs.Paths.{Path}

abbrev pub is_slash : ℕ → Bool
is_slash b = b == 47

-- what is between the slashes of a text
abbrev pub pieces : List ℕ → List Name
pieces text = slice_split is_slash text

-- one piece as a name, where it begins at this place after so many names
abbrev pub name_at : ℕ → ℕ → Name → Result Name PathFault
name_at place before piece =
    let len = identifier_len piece in
    if len == 0 then Err (Syntax place)
    else (if before == 32 then Err TooDeep
    else (if nat_lt 64 len then Err NameTooLong
    else (if nat_lt len (length piece) then Err (Syntax (place + len))
    else Ok piece)))

-- a name before others, where the first fault decides
abbrev pub before_names : Result Name PathFault → Result Path PathFault → Result Path PathFault
before_names (Err fault) rest = Err fault
before_names (Ok name) (Err fault) = Err fault
before_names (Ok name) (Ok names) = Ok (name ∷ names)

-- the pieces as names, where the first begins at this place after so many names
abbrev pub names_at : ℕ → ℕ → List Name → Result Path PathFault
names_at place before [] = Ok []
names_at place before (piece ∷ rest) = before_names (name_at place before piece) (names_at (place + length piece + 1) (before + 1) rest)

-- the path that a text spells: `/`, or names that each are after a slash
abbrev pub path_of_text : List ℕ → Result Path PathFault
path_of_text [] = Err (Syntax 0)
path_of_text (first ∷ []) = if is_slash first then Ok [] else Err (Syntax 0)
path_of_text (first ∷ second ∷ rest) = if is_slash first then names_at 1 0 (pieces (second ∷ rest)) else Err (Syntax 0)
