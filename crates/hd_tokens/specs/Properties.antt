-- The used properties: the name of each, what its value is, its locator, and the types that it may have.
use Rattle.std.specs.Prelude.{List, [], ◌∷◌, Bool, true, false, ◌&&◌, ◌||◌, not, if◌then◌else◌, Option, Some, None, codes, nat_eq, drop, take, find}
use Rattle.std.specs.Str.{bytes_eq}
use Rattle.std.specs.List.{prefix_len, starts_with}
use Rattle.std.specs.Option.{option_map, option_and_then}
use Rattle.hd_path.specs.Names.{Name}
use Rattle.hd_tokens.specs.declared.properties.AttributeKind.{AttributeKind}
use Rattle.hd_tokens.specs.declared.properties.AttributeKind.TheVariants.{Points, Numbers, Colors, ByteColors, OpOrder, Visibility, Purpose, Vector, Angle, Angles, Transform, ByteColor}
use Rattle.hd_tokens.specs.declared.properties.Content.{Content}
use Rattle.hd_tokens.specs.declared.properties.Content.TheVariants.{Attribute, Targets}
use Rattle.hd_tokens.specs.Names.{is_any, is_joined, is_part}
use Rattle.hd_tokens.specs.Locators.{Locator, points_at, counts_at, indices_at, display_color_at, color8_at, order_at, op_at, visibility_at, purpose_at, binding_at, positions_at, proto_indices_at, prototypes_at, material_color_at}

-- a used property: its name, what its value is, and the locator at which its value is
pub record UsedProperty : Type 0 where
  pub name : Name
  pub content : Content
  pub locator : Locator

abbrev pub property : Name → Content → Locator → UsedProperty
property name content locator = record { name = name; content = content; locator = locator }

-- the used properties but ops
abbrev pub used_properties : List UsedProperty
used_properties =
    property (codes "points") (Attribute Points) points_at
    ∷ property (codes "faceVertexCounts") (Attribute Numbers) counts_at
    ∷ property (codes "faceVertexIndices") (Attribute Numbers) indices_at
    ∷ property (codes "primvars:displayColor") (Attribute Colors) display_color_at
    ∷ property (codes "primvars:color8") (Attribute ByteColors) color8_at
    ∷ property (codes "xformOpOrder") (Attribute OpOrder) order_at
    ∷ property (codes "visibility") (Attribute Visibility) visibility_at
    ∷ property (codes "purpose") (Attribute Purpose) purpose_at
    ∷ property (codes "material:binding") Targets binding_at
    ∷ property (codes "positions") (Attribute Points) positions_at
    ∷ property (codes "protoIndices") (Attribute Numbers) proto_indices_at
    ∷ property (codes "prototypes") Targets prototypes_at
    ∷ property (codes "color8") (Attribute ByteColor) material_color_at
    ∷ []

-- the used property of this name, where it is no op
abbrev pub named_property : Name → Option UsedProperty
named_property name = find (λ p. bytes_eq name p.name) used_properties

-- a kind of ops: its name, and what the value of such an op is
pub record OpKind : Type 0 where
  pub name : Name
  pub kind : AttributeKind

abbrev pub op_kind : Name → AttributeKind → OpKind
op_kind name kind = record { name = name; kind = kind }

-- the kinds of ops
abbrev pub op_kinds : List OpKind
op_kinds =
    op_kind (codes "translate") Vector
    ∷ op_kind (codes "scale") Vector
    ∷ op_kind (codes "rotateX") Angle
    ∷ op_kind (codes "rotateY") Angle
    ∷ op_kind (codes "rotateZ") Angle
    ∷ op_kind (codes "rotateXYZ") Angles
    ∷ op_kind (codes "transform") Transform
    ∷ []

-- what the value of an op of this kind is
abbrev pub op_value_kind : Name → Option AttributeKind
op_value_kind name = option_map (λ k. k.kind) (find (λ k. bytes_eq name k.name) op_kinds)

-- up to the next colon
abbrev pub first_part : Name → Name
first_part text = take (prefix_len is_part text) text

-- a name that begins as that of an op
abbrev pub begins_op : Name → Bool
begins_op name = starts_with nat_eq name (codes "xformOp:")

-- an op is named `xformOp:` and its kind, and after a colon a suffix may follow
unfoldable pub op_kind_of : Name → Option AttributeKind
op_kind_of name =
    if begins_op name && is_joined name then op_value_kind (first_part (drop 8 name)) else None

-- the property of an op, whose locator ends with the text after `xformOp:`
abbrev pub op_property : Name → Option UsedProperty
op_property name = option_map (λ kind. property name (Attribute kind) (op_at (drop 8 name))) (op_kind_of name)

-- the used property of this name, if there is one
unfoldable pub property_of : Name → Option UsedProperty
property_of name = if begins_op name then op_property name else named_property name

-- what the value of the used property of this name is
unfoldable pub content_of : Name → Option Content
content_of name = option_map (λ p. p.content) (property_of name)

-- the locator of the used property of this name
unfoldable pub locator_of : Name → Option Locator
locator_of name = option_map (λ p. p.locator) (property_of name)

abbrev pub attribute_kind_in : Content → Option AttributeKind
attribute_kind_in (Attribute kind) = Some kind
attribute_kind_in Targets = None

abbrev pub is_targets : Option Content → Bool
is_targets (Some Targets) = true
is_targets (Some (Attribute kind)) = false
is_targets None = false

-- what a used attribute of this name is, if there is one
unfoldable pub attribute_kind_of : Name → Option AttributeKind
attribute_kind_of name = option_and_then attribute_kind_in (content_of name)

-- the name of a used relationship
abbrev pub is_target_name : Name → Bool
is_target_name name = is_targets (content_of name)

-- the types of three numbers
abbrev pub vector_types : List Name
vector_types = codes "float3" ∷ codes "double3" ∷ codes "half3" ∷ []

-- the types that an attribute may have, but for the brackets of an array
abbrev pub types_of : AttributeKind → List Name
types_of Points = codes "point3f" ∷ codes "point3d" ∷ codes "point3h" ∷ vector_types
types_of Numbers = codes "int" ∷ []
types_of Colors = codes "color3f" ∷ codes "color3d" ∷ codes "color3h" ∷ vector_types
types_of ByteColors = codes "int3" ∷ []
types_of OpOrder = codes "token" ∷ []
types_of Visibility = codes "token" ∷ []
types_of Purpose = codes "token" ∷ []
types_of Vector = vector_types
types_of Angle = codes "float" ∷ codes "double" ∷ codes "half" ∷ []
types_of Angles = vector_types
types_of Transform = codes "matrix4d" ∷ []
types_of ByteColor = codes "int3" ∷ []

-- whether its type is that of an array
abbrev pub is_array : AttributeKind → Bool
is_array Points = true
is_array Numbers = true
is_array Colors = true
is_array ByteColors = true
is_array OpOrder = true
is_array Visibility = false
is_array Purpose = false
is_array Vector = false
is_array Angle = false
is_array Angles = false
is_array Transform = false
is_array ByteColor = false

-- the attribute may have this type, with the brackets of an array or without
abbrev pub allows : AttributeKind → Name → Bool → Bool
allows kind type brackets = is_any (types_of kind) type && (if brackets then is_array kind else not (is_array kind))

-- the strings that a visibility, a purpose may be
abbrev pub visibilities : List Name
visibilities = codes "inherited" ∷ codes "invisible" ∷ []

abbrev pub purposes : List Name
purposes = codes "default" ∷ codes "render" ∷ codes "proxy" ∷ codes "guide" ∷ []

-- there is one
abbrev pub is_used : Option AttributeKind → Bool
is_used None = false
is_used (Some kind) = true

-- an entry of an op order: the name of an op, or as the first one the reset
abbrev pub is_op_entry : Bool → Name → Bool
is_op_entry first text = (first && bytes_eq text (codes "!resetXformStack!")) || is_used (op_kind_of text)
