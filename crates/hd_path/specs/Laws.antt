-- What follows from the definitions.
use Rattle.std.specs.Prelude.{◌≡◌, ℕ, suc, true, List, take, All, Ok, Err}
use Rattle.std.specs.Cmp.Lexicographic.{slice_cmp}
use Rattle.std.specs.Ordering.{nat_cmp}
use Rattle.hd_path.specs.declared.fault.PathFault.TheVariants.{Syntax}
use Rattle.hd_path.specs.Changes.{child_of}
use Rattle.hd_path.specs.Names.{Name, IsName, is_identifier}
use Rattle.hd_path.specs.Paths.{Path, IsPath, path_text, path_cmp}
use Rattle.hd_path.specs.Parsing.{path_of_text}

-- a path is what its text spells
abbrev pub TextSpellsPath : Type 0
TextSpellsPath = (path : Path) → IsPath path → path_of_text (path_text path) ≡ Ok path

-- a text that spells a path is the text of that path
abbrev pub SpelledPathHasText : Type 0
SpelledPathHasText = (text : List ℕ) (path : Path) → path_of_text text ≡ Ok path → IsPath path × (path_text path ≡ text)

-- the order name by name is that of the texts
abbrev pub OrderIsThatOfTexts : Type 0
OrderIsThatOfTexts = (p q : Path) → IsPath p → IsPath q → path_cmp p q ≡ slice_cmp nat_cmp (path_text p) (path_text q)

-- the first so many bytes of the text are those of a whole one
abbrev pub Begins : (List ℕ → Type 0) → ℕ → List ℕ → Type 0
Begins IsWhole count text = (whole : List ℕ) × IsWhole whole × (take count text ≡ take count whole)

-- the bytes before the place begin a whole text, and with the byte there none; at the end, the text is no whole one
pub record StopsAt (IsWhole : List ℕ → Type 0) (text : List ℕ) (at : ℕ) : Type 0 where
  pub begins : Begins IsWhole at text
  pub no_further : ¬ Begins IsWhole (suc at) text

-- the text of names, however many: the limit of 32 names is a fault of its own, at the first letter of the 33rd
abbrev pub IsTextOfNames : List ℕ → Type 0
IsTextOfNames text = (names : Path) × All IsName names × (path_text names ≡ text)

-- a text's fault is at the first byte at which no names go on, or at its end where it is too short
abbrev pub FaultIsWhereNoPathGoesOn : Type 0
FaultIsWhereNoPathGoesOn = (text : List ℕ) (at : ℕ) → path_of_text text ≡ Err (Syntax at) → StopsAt IsTextOfNames text at

-- the same of a child's name and identifiers, of any length
abbrev pub ChildFaultIsWhereNoNameGoesOn : Type 0
ChildFaultIsWhereNoNameGoesOn = (path : Path) (name : Name) (at : ℕ) → child_of path name ≡ Err (Syntax at) → StopsAt (λ whole. is_identifier whole ≡ true) name at
