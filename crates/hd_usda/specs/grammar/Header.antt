-- What is before the value of a property: its list op, its type and its name.
use Rattle.std.specs.Prelude.{ℕ, List, ◌∷◌, ◌++◌, Bool, true, false, ◌&&◌, ◌||◌, Ok, Err, if◌then◌else◌, codes}
use Rattle.hd_path.specs.Names.{Name}
use Rattle.hd_lexer.specs.declared.lexer.Kind.TheVariants.{Word, OpenSquare, CloseSquare, Colon}
use Rattle.hd_layer.specs.declared.fault.LayerWhy.TheVariants.{Syntax, LeftOut}
use Rattle.hd_lexer.specs.Lexing.{Tokens}
use Rattle.hd_usda.specs.reading.Cursor.{◌>>=◌, Form, is, is_word, rest, text, line_of, fault_at, take}
use Rattle.hd_usda.specs.reading.Loops.{chain}
use Rattle.hd_usda.specs.grammar.Metadata.{list_ops}
use Rattle.hd_tokens.specs.Names.{is_any}

-- the words of the grammar, and one more, which are no types
abbrev pub reserved_words : List Name
reserved_words = codes "def" ∷ codes "over" ∷ codes "class" ∷ codes "custom" ∷ codes "uniform" ∷ codes "varying" ∷ codes "rel" ∷ codes "connect" ∷ codes "timeSamples" ∷ codes "variantSet" ∷ list_ops

-- [listop]: whether it is there; the order of children or properties is left out
unfoldable pub list_op : Form Bool
list_op ts =
    if is Word ts && is_any list_ops (text ts) then (if is_word (codes "reorder") ts && (is_word (codes "nameChildren") (rest ts) || is_word (codes "properties") (rest ts)) then Err (fault_at ts LeftOut) else Ok (true, rest ts))
    else Ok (false, ts)

-- the next token may be this word, and is then passed
unfoldable pub past_word : List ℕ → Tokens → Tokens
past_word word ts = if is_word word ts then rest ts else ts

-- ["custom"] ["uniform" | "varying"]
unfoldable pub past_modifiers : Tokens → Tokens
past_modifiers ts =
    let u = past_word (codes "custom") ts in
    if is_word (codes "uniform") u then rest u else past_word (codes "varying") u

-- a type: its word, and whether it has the brackets of an array
unfoldable pub own_type : Form (List ℕ × Bool)
own_type ts =
    if is Word ts && is_any reserved_words (text ts) then Err (fault_at ts Syntax)
    else (do
      u ← take Word ts
      if is OpenSquare u then (take CloseSquare (rest u) >>= λ v. Ok ((text ts, true), v)) else Ok ((text ts, false), u))

-- a name, and the line of its last word
pub record PropertyName : Type 0 where
  pub name : List ℕ
  pub line : ℕ

-- one more word, after its colon
unfoldable pub next_word : PropertyName → Form PropertyName
next_word p ts = do
  u ← take Word ts
  Ok (record { name = p.name ++ 58 ∷ text ts; line = line_of ts }, u)

-- pname = WORD (":" WORD)*
unfoldable pub pname : Form PropertyName
pname ts = do
  u ← take Word ts
  chain Colon next_word (record { name = text ts; line = line_of ts }) u
