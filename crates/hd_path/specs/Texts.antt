-- A path that is held as the text of its names.
use Rattle.std.specs.Prelude.{◌≡◌, ℕ, List, [], ◌∷◌, Option, Some, None}
use Rattle.std.specs.declared.sync.ArcStr.{ArcStr}
use Rattle.std.specs.declared.alloc.Global.{Global}
use Rattle.std.specs.Arc.{arc_str_bytes}
use Rattle.hd_path.specs.Parsing.{pieces}
use Rattle.hd_path.specs.Paths.{Path, names_text, IsPath}

-- the text that is held, where nothing is the empty one
abbrev pub held_text : Option (ArcStr Global) → List ℕ
held_text None = []
held_text (Some text) = arc_str_bytes text

-- the names of a text in which each is after a slash
abbrev pub names_in : List ℕ → Path
names_in [] = []
names_in (slash ∷ rest) = pieces rest

-- the text has the names of a path, each after a slash, and nothing else
pub record IsSlashed (text : List ℕ) : Type 0 where
  pub path : IsPath (names_in text)
  pub same : names_text (names_in text) ≡ text
