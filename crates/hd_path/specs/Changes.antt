-- Paths that are made of other paths.
use Rattle.std.specs.Prelude.{◌||◌, ◌==◌, nat_lt, if◌then◌else◌, [], ◌∷◌, ◌++◌, length, drop, Result, Ok, Err}
use Rattle.hd_path.specs.declared.fault.PathFault.{PathFault}
use Rattle.hd_path.specs.declared.fault.PathFault.TheVariants.{Syntax, TooDeep, NameTooLong}
use Rattle.hd_path.specs.Names.{Name, identifier_len}
use Rattle.hd_path.specs.Paths.{Path}

-- the path with one more name
abbrev pub child_of : Path → Name → Result Path PathFault
child_of path name =
    let len = identifier_len name in
    if len == 0 || nat_lt len (length name) then Err (Syntax len)
    else (if nat_lt 64 (length name) then Err NameTooLong
    else (if length path == 32 then Err TooDeep
    else Ok (path ++ name ∷ [])))

-- the path with other names in place of those that it begins with
abbrev pub replace_prefix : Path → Path → Path → Result Path PathFault
replace_prefix path from to =
    let names = to ++ drop (length from) path in
    if nat_lt 32 (length names) then Err TooDeep else Ok names
