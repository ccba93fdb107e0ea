-- A file that is read from its front.
use Rattle.std.proofs.Common.{◌≡◌, ℕ, ◌+◌, ◌≤◌, ◌∙◌, List, ◌++◌, length, take, Option, Some, None, sym, ap, subst, arith, length-append, length-take}
use Rattle.std.specs.Prelude.{IfSome, IsSomeAnd}
use Rattle.std.proofs.lemmas.List.{take-append-le}
use Rattle.hd_io.specs.Files.{FileMap, open_bytes}
use Rattle.hd_io.specs.Shelf.{ReadsNext}
use Rattle.hd_io.proofs.WholeFiles.{take-read}

-- the bytes are those at the front of the file
pub record IsFront (bytes file : List ℕ) : Type 0 where
  pub same : bytes ≡ take (length bytes) file
  pub within : length bytes ≤ length file

-- a piece more
front_grows : (bytes file buffer : List ℕ) (n : ℕ) → n ≤ length buffer → IsFront bytes file → ReadsNext file (length bytes) n buffer → IsFront (bytes ++ take n buffer) file
front_grows bytes file buffer n le front next =
    let piece : length (take n buffer) ≡ n = simp length-take (omega arith) in
    let long : length (bytes ++ take n buffer) ≡ length bytes + n = length-append bytes (take n buffer) ∙ ap (λ m. length bytes + m) piece in
    record {
      same =
          ap (λ b. b ++ take n buffer) front.same
          ∙ take-read file (length bytes) n buffer next
          ∙ ap (λ m. take m file) (sym long);
      within = omega (arith, long, next.within);
    }

grows : (told : Option (List ℕ)) (bytes buffer : List ℕ) (place n : ℕ) → place ≡ length bytes → n ≤ length buffer
    → IsSomeAnd told (IsFront bytes) → IsSomeAnd told (λ file. ReadsNext file place n buffer) → IsSomeAnd told (IsFront (bytes ++ take n buffer))
grows None bytes buffer place n is le front next = front
grows (Some file) bytes buffer place n is le front next = front_grows bytes file buffer n le front (subst (λ (p : ℕ). ReadsNext file p n buffer) is next)

-- the bytes so far, where the files are told, and a piece more
pub all_grow : (files told : Option FileMap) (open_ opened : Option (List ℕ)) (bytes more buffer after : List ℕ) (place n : ℕ)
    → files ≡ told → open_ ≡ opened → place ≡ length bytes → n ≤ length buffer → more ≡ bytes ++ take n (buffer ++ after)
    → IfSome told (λ map. IsSomeAnd (open_bytes map opened) (IsFront bytes))
    → IfSome files (λ map. IsSomeAnd (open_bytes map open_) (λ file. ReadsNext file place n buffer))
    → IfSome told (λ map. IsSomeAnd (open_bytes map opened) (IsFront more))
all_grow files None open_ opened bytes more buffer after place n same_files same_open is le all front next = tt
all_grow files (Some map) open_ opened bytes more buffer after place n same_files same_open is le all front next =
    let piece : IsSomeAnd (open_bytes map opened) (λ file. ReadsNext file place n buffer) =
    subst (λ (o : Option (List ℕ)). IsSomeAnd (open_bytes map o) (λ file. ReadsNext file place n buffer)) same_open
    (subst (λ (f : Option FileMap). IfSome f (λ m. IsSomeAnd (open_bytes m open_) (λ file. ReadsNext file place n buffer))) same_files next) in
    let whole : bytes ++ take n buffer ≡ more = ap (λ (b : List ℕ). bytes ++ b) (sym (take-append-le n buffer after le)) ∙ sym all in
    subst (λ (b : List ℕ). IsSomeAnd (open_bytes map opened) (IsFront b)) whole (grows (open_bytes map opened) bytes buffer place n is le front piece)
