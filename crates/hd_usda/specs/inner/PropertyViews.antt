-- Properties as the reader holds them.
use Rattle.std.specs.Prelude.{ℕ, List, Bool}
use Rattle.hd_usda.specs.declared.grammar.header.PropertyName as coded_name
use Rattle.hd_usda.specs.declared.grammar.header.OwnType as coded_type
use Rattle.hd_usda.specs.declared.grammar.kept.PrimProperties as coded_properties
use Rattle.hd_usda.specs.declared.grammar.attribute.AttributeHeader as coded_header
use Rattle.hd_usda.specs.grammar.Header.{PropertyName}
use Rattle.hd_usda.specs.grammar.Kept.{PrimProperties}
use Rattle.hd_usda.specs.grammar.Attribute.{AttributeHeader}

abbrev pub name_view : coded_name.PropertyName → PropertyName
name_view p = record { name = p.name.items; line = p.line }

abbrev pub type_view : coded_type.OwnType → List ℕ × Bool
type_view t = (t.word.now, t.brackets)

abbrev pub attribute_header_view : coded_header.AttributeHeader → AttributeHeader
attribute_header_view l = record { listed = l.listed; word = l.word.now; brackets = l.brackets }

abbrev pub properties_view : coded_properties.PrimProperties → PrimProperties
properties_view b = record { properties = b.properties; values = b.values.items }
