-- What writing a file or a line leaves, whole or interrupted.
use Rattle.std.specs.Prelude.{◌≡◌, ◌≤◌, ◌⊎◌, ℕ, List, [], ◌∷◌, ◌++◌, length, take, Option}
use Rattle.std.specs.Option.{option_map}
use Rattle.hd_io.specs.Files.{FileList, with_bytes}

-- these bytes more, where the object tells its bytes
abbrev pub with_line : List ℕ → Option (List ℕ) → Option (List ℕ)
with_line line held = option_map (λ bytes. bytes ++ line) held

-- one file more, where the object tells its files
abbrev pub with_whole : List ℕ → List ℕ → Option FileList → Option FileList
with_whole name bytes held = option_map (λ files. files ++ (name, bytes) ∷ []) held

-- at most a beginning of the line was written
abbrev pub CutLine : List ℕ → Option (List ℕ) → Option (List ℕ) → Type 0
CutLine line before now = (n : ℕ) × (n ≤ length line) × (now ≡ with_line (take n line) before)

-- at most a beginning of the bytes was written to the last file
abbrev pub CutBytes : List ℕ → Option FileList → Option FileList → Type 0
CutBytes bytes before now = (n : ℕ) × (n ≤ length bytes) × (now ≡ option_map (with_bytes (take n bytes)) before)

-- no file was added, or the file with a beginning of its bytes
abbrev pub CutFile : List ℕ → List ℕ → Option FileList → Option FileList → Type 0
CutFile name bytes before now = (now ≡ before) ⊎ ((n : ℕ) × (n ≤ length bytes) × (now ≡ with_whole name (take n bytes) before))
