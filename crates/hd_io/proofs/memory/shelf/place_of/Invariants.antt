use Rattle.std.proofs.Common.{◌≡◌, drop}
use Rattle.hd_io.specs.Files.{file_list}
use Rattle.hd_io.proofs.Finding.{first_of}
use Rattle.hd_io.proofs.memory.shelf.place_of.Given as goal

-- the scan of all files goes on at the index
abbrev pub invariant-loop-index : goal.invariant-loop-index
invariant-loop-index l = first_of l.name (file_list (drop l.index l.files)) ≡ first_of l.name (file_list l.files)
