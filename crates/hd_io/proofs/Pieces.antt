-- Bytes that are written piece by piece.
use Rattle.std.proofs.Common.{◌≡◌, ℕ, ◌+◌, ◌∙◌, List, [], ◌++◌, length, take, drop, Option, Some, None, refl, sym, ap, append_assoc, take-add, inr, take_all, arith}
use Rattle.std.specs.Option.{option_map}
use Rattle.hd_io.specs.Files.{FileList, with_file, with_bytes}
use Rattle.hd_io.proofs.WholeFiles.{with_bytes-nil, with_bytes-with_bytes, with_bytes-with_file}
use Rattle.hd_io.specs.Writing.{with_line, with_whole, CutBytes, CutFile}

-- the next piece goes after those that were written
pub line_more : (line : List ℕ) (m n : ℕ) (held : Option (List ℕ))
    → option_map (λ (bytes : List ℕ). bytes ++ take n (drop m line)) (with_line (take m line) held) ≡ with_line (take (m + n) line) held
line_more line m n None = refl
line_more line m n (Some bytes) = ap (λ (b : List ℕ). Some b) (append_assoc bytes (take m line) (take n (drop m line)) ∙ ap (λ (b : List ℕ). bytes ++ b) (sym (take-add m n line)))

-- nothing was written yet
pub bytes_begin : (held : Option FileList) → held ≡ option_map (with_bytes []) held
bytes_begin None = refl
bytes_begin (Some files) = ap (λ (fs : FileList). Some fs) (sym (with_bytes-nil files))

pub bytes_more : (bytes : List ℕ) (m n : ℕ) (held : Option FileList)
    → option_map (with_bytes (take n (drop m bytes))) (option_map (with_bytes (take m bytes)) held) ≡ option_map (with_bytes (take (m + n) bytes)) held
bytes_more bytes m n None = refl
bytes_more bytes m n (Some files) =
    ap (λ (fs : FileList). Some fs) (with_bytes-with_bytes (take m bytes) (take n (drop m bytes)) files ∙ ap (λ (b : List ℕ). with_bytes b files) (sym (take-add m n bytes)))

-- bytes in the file that was created
pub created_gets : (name bytes : List ℕ) (held : Option FileList) → option_map (with_bytes bytes) (option_map (with_file name) held) ≡ with_whole name bytes held
created_gets name bytes None = refl
created_gets name bytes (Some files) = ap (λ (fs : FileList). Some fs) (with_bytes-with_file name bytes files)

-- a file that is cut short
pub cut_file : (name bytes : List ℕ) (before created now : Option FileList)
    → created ≡ option_map (with_file name) before → CutBytes bytes created now → CutFile name bytes before now
cut_file name bytes before created now is cut =
    inr (cut.0, cut.1, cut.2 ∙ ap (option_map (with_bytes (take cut.0 bytes))) is ∙ created_gets name (take cut.0 bytes) before)

-- a file that was written whole and not closed
pub whole_file : (name bytes : List ℕ) (before now : Option FileList)
    → now ≡ with_whole name bytes before → CutFile name bytes before now
whole_file name bytes before now is = inr (length bytes, omega arith, is ∙ ap (λ (b : List ℕ). with_whole name b before) (sym (take_all (length bytes) bytes (omega arith))))
