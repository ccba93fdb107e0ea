-- Texts that begin with one another at a slash.
use Rattle.std.specs.Prelude.{◌≡◌, ℕ, List, [], ◌∷◌, length, take, drop}

-- nothing, or what begins with a slash
abbrev pub AtSlash : List ℕ → Type 0
AtSlash [] = Unit {0}
AtSlash (first ∷ rest) = first ≡ 47

-- the text begins with the front, and ends there or goes on at a slash
abbrev pub GoesOnAtSlash : List ℕ → List ℕ → Type 0
GoesOnAtSlash text front = (take (length front) text ≡ front) × AtSlash (drop (length front) text)
