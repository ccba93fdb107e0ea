-- Metadata, of which nothing is kept.
use Rattle.std.specs.Prelude.{ℕ, ◌-◌, List, [], ◌∷◌, Bool, ◌||◌, ◌&&◌, Ok, Err, if◌then◌else◌, codes}
use Rattle.std.specs.Str.{bytes_eq}
use Rattle.hd_path.specs.Names.{Name}
use Rattle.hd_tokens.specs.Names.{is_any}
use Rattle.hd_lexer.specs.declared.lexer.Kind.TheVariants.{Word, Number, Text, OpenRound, CloseRound, Equals, Semicolon}
use Rattle.hd_layer.specs.declared.fault.LayerWhy.TheVariants.{LeftOut}
use Rattle.hd_layer.specs.declared.limits.Which.TheVariants.{Nesting}
use Rattle.hd_layer.specs.Limits.{limit_of}
use Rattle.hd_lexer.specs.Lexing.{Tokens}
use Rattle.hd_usda.specs.reading.Cursor.{◌>>=◌, Past, is, is_word, rest, text, line_of, fault_in, fault_at, take, past_one}
use Rattle.hd_usda.specs.reading.Loops.{past}
use Rattle.hd_usda.specs.grammar.Value.{value}

-- what may be before a key or a property
abbrev pub list_ops : List Name
list_ops = codes "add" ∷ codes "append" ∷ codes "prepend" ∷ codes "delete" ∷ codes "reorder" ∷ []

-- the keys whose meaning is left out
abbrev pub left_out_keys : List Name
left_out_keys = codes "references" ∷ codes "payload" ∷ codes "inherits" ∷ codes "specializes" ∷ codes "variants" ∷ codes "variantSets" ∷ codes "relocates" ∷ codes "subLayers" ∷ []

-- the value says that a prim is not active
unfoldable pub is_off : Tokens → Bool
is_off ts = is_word (codes "false") ts || (is Number ts && bytes_eq (text ts) (codes "0"))

-- after its key, which is in this line: "=" value, where one bracket is open
unfoldable pub after_key : List ℕ → ℕ → Past
after_key key line ts =
    if is_any left_out_keys key then Err (fault_in line LeftOut)
    else (do
      u ← take Equals ts
      if bytes_eq key (codes "active") && is_off u then Err (fault_at u LeftOut) else value (limit_of Nesting - 1) u)

-- [listop] WORD "=" value, where a list op is before a word alone
unfoldable pub keyed : Past
keyed ts = do
  u ← take Word ts
  if is_any list_ops (text ts) && is Word u then after_key (text u) (line_of u) (rest u) else after_key (text ts) (line_of ts) u

-- entry = (STRING | [listop] WORD "=" value) [";"]
unfoldable pub entry : Past
entry ts = do
  u ← (if is Text ts then Ok (rest ts) else keyed ts)
  Ok (past_one Semicolon u)

-- [meta], where meta = "(" entry* ")"
unfoldable pub metadata : Past
metadata ts = if is OpenRound ts then past CloseRound entry (rest ts) else Ok ts
