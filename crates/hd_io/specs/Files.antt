-- Files as names with bytes, in an order or by their names.
use Rattle.std.specs.Prelude.{ℕ, List, [], ◌∷◌, ◌++◌, map, Option, string_bytes}
use Rattle.std.specs.Option.{option_and_then}
use Rattle.std.specs.Ordering.{nat_cmp}
use Rattle.std.specs.Cmp.Lexicographic.{slice_cmp}
use Rattle.std.specs.FinMap.{FinMap, from_entries, get}
use Rattle.hd_io.specs.declared.memory.file.MemoryFile.{MemoryFile}

-- files in an order, each a name with its bytes
abbrev pub FileList : Type 0
FileList = List (List ℕ × List ℕ)

-- files by their names
abbrev pub FileMap : Type 0
FileMap = FinMap (slice_cmp nat_cmp) (List ℕ)

-- the files of a list by their names, where the first of a name counts
abbrev pub file_map : FileList → FileMap
file_map files = from_entries files

-- the bytes of the file of this name
abbrev pub bytes_of : FileMap → List ℕ → Option (List ℕ)
bytes_of files name = get files name

-- the bytes of the open file
abbrev pub open_bytes : FileMap → Option (List ℕ) → Option (List ℕ)
open_bytes files opened = option_and_then (bytes_of files) opened

-- the files of a program's list
abbrev pub file_list : List MemoryFile → FileList
file_list files = map (λ file. (string_bytes file.name, file.bytes.items)) files

-- the files with one more of this name, which is empty
abbrev pub with_file : List ℕ → FileList → FileList
with_file name files = files ++ (name, []) ∷ []

-- the files with these bytes at the end of the last one
abbrev pub with_bytes : List ℕ → FileList → FileList
with_bytes bytes [] = []
with_bytes bytes (file ∷ []) = (file.0, file.1 ++ bytes) ∷ []
with_bytes bytes (file ∷ next ∷ files) = file ∷ with_bytes bytes (next ∷ files)
