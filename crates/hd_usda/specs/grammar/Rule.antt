-- What is asked of a property by the place in which it is.
use Rattle.std.specs.Prelude.{Bool, true, false, ◌&&◌, not, Ok, Err, if◌then◌else◌}
use Rattle.hd_lexer.specs.declared.lexer.Kind.TheVariants.{Equals}
use Rattle.hd_layer.specs.declared.fault.LayerWhy.TheVariants.{Syntax}
use Rattle.hd_usda.specs.declared.grammar.rule.PropertyRule.{PropertyRule}
use Rattle.hd_usda.specs.declared.grammar.rule.PropertyRule.TheVariants.{Any, Used, Assigned}
use Rattle.hd_usda.specs.reading.Cursor.{Past, is, fault_at}

-- a property of this prim is used, if its name is that of a used one
abbrev pub is_for_use : PropertyRule → Bool
is_for_use Any = false
is_for_use Used = true
is_for_use Assigned = true

-- the property needs a value
abbrev pub needs_value : PropertyRule → Bool
needs_value Any = false
needs_value Used = false
needs_value Assigned = true

-- the properties of a prim that counts are used
abbrev pub rule_of : Bool → PropertyRule
rule_of counts = if counts then Used else Any

-- "=" is next, where a value is needed
unfoldable pub before_value : PropertyRule → Past
before_value rule ts = if needs_value rule && not (is Equals ts) then Err (fault_at ts Syntax) else Ok ts
