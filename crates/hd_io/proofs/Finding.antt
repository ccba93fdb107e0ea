-- A scan from the front finds the file that the map has at a name.
use Rattle.std.proofs.Common.{◌≡◌, ◌∙◌, ℕ, ◌+◌, ◌<◌, List, true, false, cond, length, get_or, drop, refl, sym, ap, subst, Option, Some, string_bytes, IsSomeAnd, slice_get, add-one}
use Rattle.std.specs.Option.{option_map}
use Rattle.std.specs.Ordering.{nat_cmp}
use Rattle.std.specs.Cmp.Lexicographic.{slice_cmp, nat_list_cmp_total, texts_ties}
use Rattle.std.specs.FinMap.{find, get-from_entries}
use Rattle.std.proofs.Math.Seq.{drop-cons}
use Rattle.std.proofs.lemmas.Option.{slice_get-get_or, slice_get-map}
use Rattle.std.specs.Str.{bytes_eq}
use Rattle.std.proofs.lemmas.Slice.Eq.{bytes_eq-Decides}
use Rattle.hd_io.specs.declared.memory.file.MemoryFile.{MemoryFile}
use Rattle.hd_io.specs.Files.{FileList, file_map, bytes_of, file_list}

-- the file at an index, as a name and bytes
pub file_at : (files : List MemoryFile) (i : ℕ) (file : MemoryFile) → i < length files → file ≡ get_or files i file → slice_get (file_list files) i ≡ Some (string_bytes file.name, file.bytes.items)
file_at files i file within is = slice_get-map _ files i ∙ ap (option_map _) (slice_get-get_or files i file within ∙ ap Some (sym is))

-- what a scan of the files from the front finds
abbrev pub first_of : List ℕ → FileList → Option (List ℕ)
first_of name files = find (slice_cmp nat_cmp) name files

pub bytes_of-first_of : (files : FileList) (name : List ℕ) → bytes_of (file_map files) name ≡ first_of name files
bytes_of-first_of files name = get-from_entries nat_list_cmp_total files name

module _ (files : List MemoryFile) (i : ℕ) (file : MemoryFile) (name : List ℕ) (within : i < length files) (is : file ≡ get_or files i file) where
  -- the scan compares with the file at i first
  here : first_of name (file_list (drop i files)) ≡ cond (bytes_eq name (string_bytes file.name)) (Some file.bytes.items) (first_of name (file_list (drop (i + 1) files)))
  here = rw (drop-cons files i file, ← is, add-one, texts_ties name (string_bytes file.name)) refl

  -- it goes on after a file of another name
  pub passed : bytes_eq name (string_bytes file.name) ≡ false → first_of name (file_list (drop (i + 1) files)) ≡ first_of name (file_list (drop i files))
  passed other = sym (rw other at here)

  -- it stops at a file of the name
  pub found : bytes_eq name (string_bytes file.name) ≡ true → first_of name (file_list (drop i files)) ≡ first_of name (file_list files)
      → IsSomeAnd (slice_get (file_list files) i) (λ f. (f.0 ≡ name) × (bytes_of (file_map (file_list files)) name ≡ Some f.1))
  found same goes_on =
      let at : slice_get (file_list files) i ≡ Some (string_bytes file.name, file.bytes.items) = file_at files i file within is in
      let named : string_bytes file.name ≡ name = sym ((bytes_eq-Decides name (string_bytes file.name)).0 same) in
      let bytes : bytes_of (file_map (file_list files)) name ≡ Some file.bytes.items = bytes_of-first_of (file_list files) name ∙ sym goes_on ∙ (rw same at here) in
      subst (λ o. IsSomeAnd o (λ f. (f.0 ≡ name) × (bytes_of (file_map (file_list files)) name ≡ Some f.1))) (sym at) (named, bytes)
