-- The open file of a shelf in memory.
use Rattle.std.proofs.Common.{◌≡◌, ◌<◌, ◌≤◌, ℕ, List, length, get_or, Option, Some, IsSomeAnd, slice_get, string_bytes, inl, inr, subst, refl, ap}
use Rattle.std.proofs.lemmas.List.{length-map}
use Rattle.std.proofs.lemmas.Option.{slice_get_cases}
use Rattle.hd_io.specs.declared.memory.file.MemoryFile.{MemoryFile}
use Rattle.hd_io.specs.Files.{FileList, file_map, bytes_of, file_list}
use Rattle.hd_io.proofs.Finding.{file_at}
use Rattle.hd_io.specs.MemoryShelf.{name_at, IsPlaced}
use Rattle.hd_io.specs.Shelf.{ShelfState}

-- the index of the open file is within
within_list : (files : FileList) (index taken : ℕ) → IsPlaced files (Some index) taken → index < length files
within_list files index taken placed =
    elim ((slice_get_cases files index).1) [
      | inl w ↦ w.1
      | inr w ↦ absurd (subst (λ o. IsSomeAnd o (λ file. (bytes_of (file_map files) file.0 ≡ Some file.1) × (taken ≤ length file.1))) w.1 placed)
    ]

-- what the file at the index says of the place
pub record IsOpenFile (files : FileList) (index : Option ℕ) (taken : ℕ) (name bytes : List ℕ) : Type 0 where
  pub named : name_at files index ≡ Some name
  pub held : bytes_of (file_map files) name ≡ Some bytes
  pub within : taken ≤ length bytes

pub open_file : (files : List MemoryFile) (index : ℕ) (file : MemoryFile) (taken : ℕ) → file ≡ get_or files index file
    → IsPlaced (file_list files) (Some index) taken → IsOpenFile (file_list files) (Some index) taken (string_bytes file.name) file.bytes.items
open_file files index file taken is placed =
    let within : index < length files = simp length-map at (within_list (file_list files) index taken placed) in
    let at : slice_get (file_list files) index ≡ Some (string_bytes file.name, file.bytes.items) = file_at files index file within is in
    let here : (bytes_of (file_map (file_list files)) (string_bytes file.name) ≡ Some file.bytes.items) × (taken ≤ length file.bytes.items) = rw at at placed in
    record { named = rw at refl; held = here.0; within = here.1 }

-- the name that failed is that of the open file
pub noted_at : (shelf : ShelfState) (faults : ℕ) (failed : Option (List ℕ)) → failed ≡ shelf.opened → record shelf { faults = faults; failed = failed } ≡ record shelf { faults = faults; failed = shelf.opened }
noted_at shelf faults failed same = ap (λ (f : Option (List ℕ)). record shelf { faults = faults; failed = f }) same
