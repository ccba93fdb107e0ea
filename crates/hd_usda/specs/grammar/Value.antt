-- Values of which nothing is kept.
use Rattle.std.specs.Prelude.{ℕ, zero, suc, ◌||◌, Ok, Err, if◌then◌else◌}
use Rattle.hd_lexer.specs.declared.lexer.Kind.TheVariants.{Word, Number, Text, Asset, PathText, OpenRound, CloseRound, OpenSquare, CloseSquare, OpenCurly, CloseCurly, Equals, Comma, Colon, Semicolon}
use Rattle.hd_layer.specs.declared.fault.LayerWhy.TheVariants.{Syntax, Limit}
use Rattle.hd_layer.specs.declared.limits.Which.TheVariants.{Nesting}
use Rattle.hd_layer.specs.Limits.{limit_of}
use Rattle.hd_usda.specs.reading.Cursor.{◌>>=◌, Past, Form, is, rest, fault_at, take, past_one}
use Rattle.hd_usda.specs.reading.Loops.{past, chain}

-- type = WORD ["[" "]"]
unfoldable pub type_name : Past
type_name ts = do
  u ← take Word ts
  if is OpenSquare u then take CloseSquare (rest u) else Ok u

-- one more word of a name, after its colon
unfoldable pub next_word : Unit {0} → Form (Unit {0})
next_word s ts = do
  u ← take Word ts
  Ok (s, u)

-- (":" WORD)*
unfoldable pub more_words : Past
more_words ts = do
  r ← chain Colon next_word tt ts
  Ok r.1

-- key = WORD (":" WORD)* | STRING
unfoldable pub key : Past
key ts =
    if is Text ts then Ok (rest ts) else (do
      u ← take Word ts
      more_words u)

-- "," value
unfoldable pub next_of_tuple : Past → Past
next_of_tuple inner ts = do
  u ← take Comma ts
  inner u

-- "," [value], where only the end of the list may be in place of the value
unfoldable pub next_of_list : Past → Past
next_of_list inner ts = do
  u ← take Comma ts
  if is CloseSquare u then Ok u else inner u

-- type key "=" value [";"]
unfoldable pub entry_of_dict : Past → Past
entry_of_dict inner ts = do
  u ← type_name ts
  v ← key u
  w ← take Equals v
  x ← inner w
  Ok (past_one Semicolon x)

-- tuple = "(" value ("," value)* ")", after the bracket
unfoldable pub tuple : Past → Past
tuple inner ts = do
  u ← inner ts
  past CloseRound (next_of_tuple inner) u

-- list = "[" [value ("," value)* [","]] "]", after the bracket
unfoldable pub list : Past → Past
list inner ts = if is CloseSquare ts then Ok (rest ts) else (inner ts >>= past CloseSquare (next_of_list inner))

-- dict = "{" (type key "=" value [";"])* "}", after the bracket
unfoldable pub dict : Past → Past
dict inner ts = past CloseCurly (entry_of_dict inner) ts

-- NUMBER | STRING | ASSET | PATHTEXT | WORD
unfoldable pub plain_value : Past
plain_value ts =
    if is Word ts || is Number ts || is Text ts || is Asset ts || is PathText ts then Ok (rest ts)
    else Err (fault_at ts Syntax)

-- value = plain_value | tuple | list | dict, in which so many brackets may still open, each inside the one before
unfoldable pub value : ℕ → Past
value zero ts =
    if is OpenRound ts || is OpenSquare ts || is OpenCurly ts then Err (fault_at ts (Limit Nesting)) else plain_value ts
value (suc level) ts =
    if is OpenRound ts then tuple (value level) (rest ts)
    else (if is OpenSquare ts then list (value level) (rest ts)
    else (if is OpenCurly ts then dict (value level) (rest ts)
    else plain_value ts))

-- ["=" value], where nothing is kept
unfoldable pub some_value : Past
some_value ts = if is Equals ts then value (limit_of Nesting) (rest ts) else Ok ts
