-- Files that are read and written in pieces.
use Rattle.std.proofs.Common.{◌≡◌, ℕ, ◌+◌, List, [], ◌∷◌, ◌++◌, take, refl, sym, ap, append_assoc, append-nil, take-add}
use Rattle.hd_io.specs.Files.{FileList, with_file, with_bytes}
use Rattle.hd_io.specs.Shelf.{ReadsNext}

-- the bytes that were taken before a read, and those that it took
pub take-read : (file : List ℕ) (place n : ℕ) (buffer : List ℕ) → ReadsNext file place n buffer → take place file ++ take n buffer ≡ take (place + n) file
take-read file place n buffer next = rw next.same (sym (take-add place n file))

-- two writes are one
pub with_bytes-with_bytes : (first second : List ℕ) (files : FileList) → with_bytes second (with_bytes first files) ≡ with_bytes (first ++ second) files
with_bytes-with_bytes first second [] = refl
with_bytes-with_bytes first second (f ∷ []) = rw append_assoc
with_bytes-with_bytes first second (f ∷ g ∷ []) = rw append_assoc
with_bytes-with_bytes first second (f ∷ g ∷ h ∷ files) = ap (λ fs. f ∷ fs) (with_bytes-with_bytes first second (g ∷ h ∷ files))

-- no bytes
pub with_bytes-nil : (files : FileList) → with_bytes [] files ≡ files
with_bytes-nil [] = refl
with_bytes-nil (f ∷ []) = rw append-nil
with_bytes-nil (f ∷ g ∷ files) = ap (λ fs. f ∷ fs) (with_bytes-nil (g ∷ files))

-- a file that is created and written
pub with_bytes-with_file : (name bytes : List ℕ) (files : FileList) → with_bytes bytes (with_file name files) ≡ files ++ (name, bytes) ∷ []
with_bytes-with_file name bytes [] = refl
with_bytes-with_file name bytes (f ∷ []) = refl
with_bytes-with_file name bytes (f ∷ g ∷ files) = ap (λ fs. f ∷ fs) (with_bytes-with_file name bytes (g ∷ files))
