-- The values of used attributes.
use Rattle.std.specs.Prelude.{ℤ, List, [], ◌∷◌, Bool, true, ◌||◌, Ok, Err, if◌then◌else◌, codes}
use Rattle.hd_path.specs.Names.{Name}
use Rattle.hd_num.specs.declared.vector.Vec3.{Vec3}
use Rattle.hd_num.specs.Matrices.{Rows}
use Rattle.hd_lexer.specs.declared.lexer.Kind.TheVariants.{Text, OpenRound, CloseRound, Number, Comma}
use Rattle.hd_layer.specs.declared.fault.LayerWhy.TheVariants.{LeftOut}
use Rattle.hd_usda.specs.declared.used.numbers.NumberRule.TheVariants.{Any, Turn, Zero, One}
use Rattle.hd_tokens.specs.declared.properties.AttributeKind.{AttributeKind}
use Rattle.hd_tokens.specs.declared.properties.AttributeKind.TheVariants.{Points, Numbers, Colors, ByteColors, OpOrder, Visibility, Purpose, Vector, Angle, Angles, Transform, ByteColor}
use Rattle.hd_layer.specs.declared.spec.RawValue.{RawValue}
use Rattle.hd_layer.specs.declared.spec.RawValue.TheVariants as raw
use Rattle.hd_usda.specs.reading.Cursor.{◌>>=◌, Form, is, is_word, text, fault_at}
use Rattle.hd_tokens.specs.Names.{is_any}
use Rattle.hd_tokens.specs.Properties.{visibilities, purposes, is_op_entry}
use Rattle.hd_usda.specs.used.Numbers.{is_non_finite, need, number, triple, row}
use Rattle.hd_usda.specs.used.Elements.{Reads, too_many, list_of}

-- numbers, triples and strings in lists: in a list of triples a number that is not finite counts as the beginning of one
abbrev pub numbers : Reads ℤ
numbers = record { attribute = true; begins = is Number; beyond = too_many; form = λ first. number Any }

abbrev pub triples : Reads Vec3
triples = record { attribute = true; begins = λ ts. is OpenRound ts || is_non_finite ts; beyond = too_many; form = λ first. triple Any }

-- STRING, which is an entry of an op order
unfoldable pub op_entry : Bool → Form Name
op_entry first ts = do
  u ← need true Text ts
  if is_op_entry first (text ts) then Ok (text ts, u) else Err (fault_at ts LeftOut)

abbrev pub op_entries : Reads Name
op_entries = record { attribute = true; begins = is Text; beyond = too_many; form = op_entry }

-- STRING, which is one of the words
unfoldable pub one_of : List Name → Form Name
one_of words ts = do
  u ← need true Text ts
  if is_any words (text ts) then Ok (text ts, u) else Err (fault_at ts LeftOut)

-- matrix = "(" row "," row "," row "," row ")", with 0, 0, 0, 1 in the last column
unfoldable pub rows : Form Rows
rows ts = do
  u ← need true OpenRound ts
  x ← row Zero u
  v ← need true Comma x.1
  y ← row Zero v
  w ← need true Comma y.1
  z ← row Zero w
  a ← need true Comma z.1
  o ← row One a
  end ← need true CloseRound o.1
  Ok (x.0 ∷ y.0 ∷ z.0 ∷ o.0 ∷ [], end)

-- a value of one item
abbrev pub single : {A : Type 0} → (List A → RawValue) → Form A → Form RawValue
single make form ts = form ts >>= λ x. Ok (make (x.0 ∷ []), x.1)

-- a value of a list
abbrev pub whole : {A : Type 0} → (A → RawValue) → Form A → Form RawValue
whole make form ts = form ts >>= λ x. Ok (make x.0, x.1)

-- the value that an attribute has by its role
abbrev pub value_of : AttributeKind → Form RawValue
value_of Points = whole raw.Triples (list_of triples)
value_of Numbers = whole raw.Numbers (list_of numbers)
value_of Colors = whole raw.Triples (list_of triples)
value_of ByteColors = whole raw.Triples (list_of triples)
value_of OpOrder = whole raw.Words (list_of op_entries)
value_of Visibility = single raw.Words (one_of visibilities)
value_of Purpose = single raw.Words (one_of purposes)
value_of Vector = single raw.Triples (triple Any)
value_of Angle = single raw.Numbers (number Turn)
value_of Angles = single raw.Triples (triple Turn)
value_of Transform = whole raw.Matrix rows
value_of ByteColor = single raw.Triples (triple Any)

-- the value of a used attribute, which is not `None`
unfoldable pub used_value : AttributeKind → Form RawValue
used_value role ts = if is_word (codes "None") ts then Err (fault_at ts LeftOut) else value_of role ts
