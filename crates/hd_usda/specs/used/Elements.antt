-- Lists in the values of used properties.
use Rattle.std.specs.Prelude.{ℕ, List, [], ◌∷◌, ◌++◌, length, Bool, true, false, ◌&&◌, nat_le, Ok, Err, if◌then◌else◌}
use Rattle.hd_lexer.specs.Lexing.{Tokens}
use Rattle.hd_lexer.specs.declared.lexer.Kind.TheVariants.{OpenSquare, CloseSquare, Comma}
use Rattle.hd_layer.specs.declared.fault.LayerWhy.{LayerWhy}
use Rattle.hd_layer.specs.declared.fault.LayerWhy.TheVariants.{Limit}
use Rattle.hd_layer.specs.declared.limits.Which.TheVariants.{Elements}
use Rattle.hd_layer.specs.Limits.{limit_of}
use Rattle.hd_usda.specs.reading.Cursor.{◌>>=◌, Form, is, rest, text, fault_at}
use Rattle.hd_usda.specs.reading.Loops.{all}
use Rattle.hd_usda.specs.used.Numbers.{need}

-- how an element is read: whether it is in the value of an attribute, whether the next token counts as its beginning, what is wrong with that token beyond the limit of elements, and its form, which is told whether it is the first
pub record Reads (A : Type 0) : Type 1 where
  pub attribute : Bool
  pub begins : Tokens → Bool
  pub beyond : List ℕ → LayerWhy
  pub form : Bool → Form A

-- too many elements
abbrev pub too_many : List ℕ → LayerWhy
too_many text = Limit Elements

-- an element after others, of which there may be no more than the limit
unfoldable pub one_more : {A : Type 0} → Reads A → List A → Form (List A)
one_more how found ts =
    if how.begins ts && nat_le (limit_of Elements) (length found) then Err (fault_at ts (how.beyond (text ts)))
    else (how.form false ts >>= λ x. Ok (found ++ x.0 ∷ [], x.1))

-- "," [element], where only the end of the list may be in place of the element
unfoldable pub next_element : {A : Type 0} → Reads A → List A → Form (List A)
next_element how found ts = do
  u ← need how.attribute Comma ts
  if is CloseSquare u then Ok (found, u) else one_more how found u

-- "[" [element ("," element)* [","]] "]"
unfoldable pub list_of : {A : Type 0} → Reads A → Form (List A)
list_of how ts = do
  u ← need how.attribute OpenSquare ts
  if is CloseSquare u then Ok ([], rest u) else (how.form true u >>= λ x. all CloseSquare (next_element how) (x.0 ∷ []) x.1)
