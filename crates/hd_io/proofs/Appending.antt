-- Bytes at the end of the last file.
use Rattle.std.proofs.Common.{◌≡◌, ℕ, zero, suc, ◌+◌, List, [], ◌∷◌, ◌++◌, length, get_or, set, refl, ap, arith, Vec, string_bytes, Result, Ok, Err, OnOk, OnErr, is_ok, cond}
use Rattle.std.specs.declared.alloc.Global.{Global}
use Rattle.hd_io.specs.declared.memory.file.MemoryFile.{MemoryFile}
use Rattle.hd_io.specs.Files.{file_list, with_bytes}

module _ (file changed : MemoryFile) (same : string_bytes changed.name ≡ string_bytes file.name) where
  pub set_last : (more : List ℕ) → changed.bytes.items ≡ file.bytes.items ++ more → (files : List MemoryFile) (n : ℕ) → n + 1 ≡ length files → file ≡ get_or files n file
      → file_list (set files n changed) ≡ with_bytes more (file_list files)
  set_last more longer [] n last is = absurd (omega arith)
  set_last more longer (f ∷ []) zero last is = cc
  set_last more longer (f ∷ []) (suc n) last is = absurd (omega arith)
  set_last more longer (f ∷ g ∷ files) zero last is = absurd (omega arith)
  set_last more longer (f ∷ g ∷ files) (suc n) last is = ap (λ fs. (string_bytes f.name, f.bytes.items) ∷ fs) (set_last more longer (g ∷ files) n (omega arith) is)

  pub set_same : changed.bytes.items ≡ file.bytes.items → (files : List MemoryFile) (n : ℕ) → file ≡ get_or files n file → file_list (set files n changed) ≡ file_list files
  set_same kept [] n is = refl
  set_same kept (f ∷ files) zero is = cc
  set_same kept (f ∷ files) (suc n) is = ap (λ fs. (string_bytes f.name, f.bytes.items) ∷ fs) (set_same kept files n is)

-- what a try to add bytes to the last file leaves
module _ {E : Type 0} (files : List MemoryFile) (n : ℕ) (file : MemoryFile) (is : file ≡ get_or files n file) (bytes : Vec ℕ Global) (more : List ℕ) where
  pub written : n + 1 ≡ length files → (r : Result (Unit {0}) E) → bytes.items ≡ cond (is_ok r) (file.bytes.items ++ more) file.bytes.items
      → OnOk r (file_list (set files n (record file { bytes = bytes })) ≡ with_bytes more (file_list files))
  written last (Ok x) e = set_last file (record file { bytes = bytes }) refl more e files n last is
  written last (Err x) e = tt

  pub unwritten : (r : Result (Unit {0}) E) → bytes.items ≡ cond (is_ok r) (file.bytes.items ++ more) file.bytes.items
      → OnErr r (file_list (set files n (record file { bytes = bytes })) ≡ file_list files)
  unwritten (Ok x) e = tt
  unwritten (Err x) e = set_same file (record file { bytes = bytes }) refl e files n is
