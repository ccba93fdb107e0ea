-- The paths of used relationships.
use Rattle.std.specs.Prelude.{ℕ, List, [], ◌∷◌, Bool, false, ◌&&◌, not, nat_lt, drop, count_by, Result, Ok, Err, if◌then◌else◌, codes}
use Rattle.std.specs.List.{list_all, list_any}
use Rattle.hd_lexer.specs.declared.lexer.Kind.TheVariants.{PathText}
use Rattle.hd_layer.specs.declared.fault.LayerWhy.{LayerWhy}
use Rattle.hd_layer.specs.declared.fault.LayerWhy.TheVariants.{LeftOut, Limit}
use Rattle.hd_layer.specs.declared.limits.Which.TheVariants.{Depth, Name, Elements}
use Rattle.hd_layer.specs.Limits.{limit_of}
use Rattle.hd_path.specs.Names.{is_identifier}
use Rattle.hd_path.specs.Parsing.{is_slash, pieces}
use Rattle.hd_path.specs.Paths.{Path}
use Rattle.hd_usda.specs.reading.Cursor.{◌>>=◌, Fault, Form, is, is_word, rest, text, line_of, fault_in, take}
use Rattle.hd_usda.specs.used.Elements.{Reads, list_of}
use Rattle.hd_usda.specs.reading.Words.{is_long}

abbrev pub no_slash : ℕ → Bool
no_slash b = not (is_slash b)

-- identifiers between slashes
abbrev pub are_identifiers : List ℕ → Bool
are_identifiers text = list_all is_identifier (pieces text)

-- a slash, and identifiers between slashes
abbrev pub is_prim_path : List ℕ → Bool
is_prim_path [] = false
is_prim_path (b ∷ bs) = is_slash b && are_identifiers bs

-- one of what is between slashes is longer than a name may be
abbrev pub has_long : List ℕ → Bool
has_long text = list_any is_long (pieces text)

-- the names that are after the first slash
abbrev pub names_of : List ℕ → Path
names_of text = pieces (drop 1 text)

-- the path that a text in this line spells
abbrev pub path_in : ℕ → List ℕ → Result Path Fault
path_in line text =
    if not (is_prim_path text) then Err (fault_in line LeftOut)
    else (if nat_lt (limit_of Depth) (count_by is_slash text) then Err (fault_in line (Limit Depth))
    else (if has_long text then Err (fault_in line (Limit Name))
    else Ok (names_of text)))

-- PATHTEXT
unfoldable pub target : Form Path
target ts = do
  u ← take PathText ts
  path ← path_in (line_of ts) (text ts)
  Ok (path, u)

-- one path, as a list
unfoldable pub one_target : Form (List Path)
one_target ts = do
  path ← target ts
  Ok (path.0 ∷ [], path.1)

-- what is wrong with a path beyond the limit of elements: its own limits come first
abbrev pub beyond_list : List ℕ → LayerWhy
beyond_list text =
    if is_prim_path text && nat_lt (limit_of Depth) (count_by is_slash text) then Limit Depth
    else (if is_prim_path text && has_long text then Limit Name
    else Limit Elements)

-- paths in a list
abbrev pub in_list : Reads Path
in_list = record { attribute = false; begins = is PathText; beyond = beyond_list; form = λ first. target }

-- targets = "None" | PATHTEXT | list of PATHTEXT
unfoldable pub targets : Form (List Path)
targets ts =
    if is_word (codes "None") ts then Ok ([], rest ts)
    else (if is PathText ts then one_target ts
    else list_of in_list ts)
