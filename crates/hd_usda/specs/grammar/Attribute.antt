-- Attributes of a prim.
use Rattle.std.specs.Prelude.{ℕ, ◌-◌, List, ◌++◌, Bool, true, false, ◌&&◌, ◌||◌, not, Option, Some, None, Result, Ok, Err, if◌then◌else◌, codes}
use Rattle.hd_lexer.specs.declared.lexer.Kind.TheVariants.{Word, Number, OpenCurly, CloseCurly, Equals, Comma, Colon, Point}
use Rattle.hd_layer.specs.declared.fault.LayerWhy.TheVariants.{Syntax, LeftOut}
use Rattle.hd_layer.specs.declared.limits.Which.TheVariants.{Nesting}
use Rattle.hd_tokens.specs.declared.properties.AttributeKind.{AttributeKind}
use Rattle.hd_usda.specs.declared.grammar.attribute.Tail.{Tail}
use Rattle.hd_usda.specs.declared.grammar.attribute.Tail.TheVariants.{Plain, Connect, Samples, Other}
use Rattle.hd_layer.specs.Limits.{limit_of}
use Rattle.hd_lexer.specs.Lexing.{Tokens}
use Rattle.hd_usda.specs.reading.Cursor.{◌>>=◌, Fault, Past, Form, is, is_word, rest, fault_in, fault_at, take}
use Rattle.hd_usda.specs.reading.Loops.{past}
use Rattle.hd_usda.specs.grammar.Value.{value, some_value}
use Rattle.hd_usda.specs.grammar.Metadata.{metadata}
use Rattle.hd_tokens.specs.Properties.{attribute_kind_of, is_target_name, allows}
use Rattle.hd_usda.specs.used.Values.{used_value}
use Rattle.hd_usda.specs.grammar.NameSet.{NameSet, new_name}
use Rattle.hd_usda.specs.grammar.Header.{own_type, PropertyName, pname}
use Rattle.hd_usda.specs.grammar.Kept.{PrimProperties, with_value}
use Rattle.hd_usda.specs.declared.grammar.rule.PropertyRule.{PropertyRule}
use Rattle.hd_usda.specs.grammar.Rule.{is_for_use, needs_value, before_value}

-- what is after the point of a tail
unfoldable pub point_tail : Tokens → Tail × Tokens
point_tail ts =
    if is_word (codes "connect") ts then (Connect, rest ts)
    else (if is_word (codes "timeSamples") ts then (Samples, rest ts)
    else (Other, ts))

-- what is after a name: the kind of its tail, and the tokens after that
unfoldable pub tail_at : Tokens → Tail × Tokens
tail_at ts = if is Point ts then point_tail (rest ts) else (Plain, ts)

-- an attribute with its tail, as names are told apart
abbrev pub with_tail : Tail → List ℕ → List ℕ
with_tail Plain name = name
with_tail Connect name = name ++ codes ".connect"
with_tail Samples name = name ++ codes ".timeSamples"
with_tail Other name = name

abbrev pub is_samples : Tail → Bool
is_samples Samples = true
is_samples Plain = false
is_samples Connect = false
is_samples Other = false

-- what is before the name of an attribute
pub record AttributeHeader : Type 0 where
  pub listed : Bool
  pub word : List ℕ
  pub brackets : Bool

-- an attribute of this role is left out, for its type or its tail
abbrev pub has_wrong_type : Option AttributeKind → AttributeHeader → Tail → Bool
has_wrong_type None header tail = false
has_wrong_type (Some role) header tail = header.listed || not (allows role header.word header.brackets) || is_samples tail

-- the name of an attribute is left out
abbrev pub is_misnamed : List ℕ → AttributeHeader → Tail → Bool
is_misnamed name header tail = is_target_name name || has_wrong_type (attribute_kind_of name) header tail

-- the tail is of connections or samples
abbrev pub has_other_value : Tail → Bool
has_other_value Plain = false
has_other_value Connect = true
has_other_value Samples = true
has_other_value Other = false

-- an attribute is left out for its name, or for a tail where a value is needed
abbrev pub is_left_out : PropertyRule → List ℕ → AttributeHeader → Tail → Bool
is_left_out rule name header tail = (is_for_use rule && is_misnamed name header tail) || (needs_value rule && has_other_value tail)

-- what is wrong with what is after a point in place of a tail
abbrev pub no_tail : Bool → ℕ → Tokens → Fault
no_tail left_out line ts = if left_out then fault_in line LeftOut else fault_at ts (if is Word ts then LeftOut else Syntax)

-- the name of an attribute, and the names with it and its tail
abbrev pub new_attribute : Tail → Bool → PropertyName → NameSet → Tokens → Result NameSet Fault
new_attribute Plain left_out p seen ts = new_name left_out (with_tail Plain p.name) p.line seen
new_attribute Connect left_out p seen ts = new_name left_out (with_tail Connect p.name) p.line seen
new_attribute Samples left_out p seen ts = new_name left_out (with_tail Samples p.name) p.line seen
new_attribute Other left_out p seen ts = Err (no_tail left_out p.line ts)

-- NUMBER ":" value, where one bracket is open
unfoldable pub sample : Past
sample ts = do
  u ← take Number ts
  v ← take Colon u
  value (limit_of Nesting - 1) v

-- "," [sample], where only the end may be in place of the sample
unfoldable pub next_sample : Past
next_sample ts = do
  u ← take Comma ts
  if is CloseCurly u then Ok u else sample u

-- samples = "{" [sample ("," sample)* [","]] "}"
unfoldable pub samples : Past
samples ts = do
  u ← take OpenCurly ts
  if is CloseCurly u then Ok (rest u) else (sample u >>= past CloseCurly next_sample)

-- "=" samples
unfoldable pub samples_value : Past
samples_value ts = do
  u ← take Equals ts
  samples u

-- ["=" value] of an attribute that is used or not
abbrev pub plain_value : Option AttributeKind → List ℕ → PrimProperties → Form PrimProperties
plain_value None name body ts = some_value ts >>= λ u. Ok (body, u)
plain_value (Some role) name body ts =
    if is Equals ts then (used_value role (rest ts) >>= λ v. Ok (with_value body (record { name = name; value = v.0 }), v.1)) else Ok (body, ts)

-- what a tail says
abbrev pub tail_value : Tail → Option AttributeKind → List ℕ → PrimProperties → Form PrimProperties
tail_value Plain role name body ts = plain_value role name body ts
tail_value Connect role name body ts = some_value ts >>= λ u. Ok (body, u)
tail_value Samples role name body ts = samples_value ts >>= λ u. Ok (body, u)
tail_value Other role name body ts = Err (fault_at ts Syntax)

abbrev pub own_role : PropertyRule → List ℕ → Option AttributeKind
own_role rule name = if is_for_use rule then attribute_kind_of name else None

-- what is after the name of an attribute: [tail] [meta]
unfoldable pub after_pname : PropertyRule → AttributeHeader → PropertyName → PrimProperties → Form PrimProperties
after_pname rule header p body ts = do
  seen ← new_attribute (tail_at ts).0 (is_left_out rule p.name header (tail_at ts).0) p body.properties (tail_at ts).1
  u ← before_value rule (tail_at ts).1
  r ← tail_value (tail_at ts).0 (own_role rule p.name) p.name (record body { properties = seen }) u
  end ← metadata r.1
  Ok (r.0, end)

-- type pname [tail] [meta]
unfoldable pub attribute : PropertyRule → Bool → PrimProperties → Form PrimProperties
attribute rule listed body ts = do
  t ← own_type ts
  p ← pname t.1
  after_pname rule (record { listed = listed; word = t.0.0; brackets = t.0.1 }) p.0 body p.1
