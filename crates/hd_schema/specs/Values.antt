-- What the values of properties become.
use Rattle.std.specs.Prelude.{List, map, Option, Some, None}
use Rattle.std.specs.Option.{option_map, option_and_then}
use Rattle.hd_path.specs.Names.{Name}
use Rattle.hd_path.specs.Paths.{Path}
use Rattle.hd_tokens.specs.declared.properties.AttributeKind.{AttributeKind}
use Rattle.hd_tokens.specs.declared.properties.AttributeKind.TheVariants.{Points, Numbers, Colors, ByteColors, OpOrder, Visibility, Purpose, Vector, Angle, Angles, Transform, ByteColor}
use Rattle.hd_tokens.specs.declared.properties.Content.{Content}
use Rattle.hd_tokens.specs.declared.properties.Content.TheVariants.{Attribute, Targets}
use Rattle.hd_layer.specs.declared.spec.RawValue.{RawValue}
use Rattle.hd_layer.specs.declared.spec.RawValue.TheVariants as raw
use Rattle.hd_tokens.specs.Properties.{content_of}
use Rattle.hd_value.specs.declared.value.Value.{Value}
use Rattle.hd_value.specs.declared.value.Value.TheVariants as value
use Rattle.hd_schema.specs.Colors.{byte_color, light_color}
use Rattle.hd_schema.specs.OpValues.{only, numbers, triples, triple, kind_of, op_of_kind}

-- the words of a value of words, and the paths of a value of paths
abbrev pub words : RawValue → Option (List Name)
words (raw.Words ws) = Some ws
words (raw.Numbers ns) = None
words (raw.Triples vs) = None
words (raw.Paths ps) = None
words (raw.Matrix m) = None

abbrev pub paths : RawValue → Option (List Path)
paths (raw.Paths ps) = Some ps
paths (raw.Numbers ns) = None
paths (raw.Triples vs) = None
paths (raw.Words ws) = None
paths (raw.Matrix m) = None

-- the only word
abbrev pub word : RawValue → Option Name
word v = option_and_then only (words v)

-- the op of the kind in the name
abbrev pub op : Name → RawValue → Option Value
op name v = option_map value.Op (op_of_kind (kind_of name) v)

-- what the value of an attribute becomes by its kind
abbrev pub attribute_value : AttributeKind → Name → RawValue → Option Value
attribute_value Points name v = option_map value.Vecs (triples v)
attribute_value Numbers name v = option_map value.Ints (numbers v)
attribute_value Colors name v = option_map (λ vs. value.Colors (map light_color vs)) (triples v)
attribute_value ByteColors name v = option_map (λ vs. value.Colors (map byte_color vs)) (triples v)
attribute_value OpOrder name v = option_map value.Tokens (words v)
attribute_value Visibility name v = option_map value.Token (word v)
attribute_value Purpose name v = option_map value.Token (word v)
attribute_value Vector name v = op name v
attribute_value Angle name v = op name v
attribute_value Angles name v = op name v
attribute_value Transform name v = op name v
attribute_value ByteColor name v = option_map (λ t. value.Color (byte_color t)) (triple v)

-- what the value of a property becomes: targets become paths
abbrev pub content_value : Content → Name → RawValue → Option Value
content_value (Attribute kind) name v = attribute_value kind name v
content_value Targets name v = option_map value.Paths (paths v)

-- what the value of the used property of this name becomes
unfoldable pub value_of : Name → RawValue → Option Value
value_of name v = option_and_then (λ content. content_value content name v) (content_of name)
