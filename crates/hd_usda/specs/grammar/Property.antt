-- The properties of a prim.
use Rattle.std.specs.Prelude.{ℕ, List, Bool, ◌&&◌, ◌||◌, Ok, if◌then◌else◌, codes}
use Rattle.hd_lexer.specs.declared.lexer.Kind.TheVariants.{Equals}
use Rattle.hd_layer.specs.declared.spec.RawValue.TheVariants.{Paths}
use Rattle.hd_usda.specs.reading.Cursor.{◌>>=◌, Form, is, is_word, rest}
use Rattle.hd_usda.specs.grammar.Value.{some_value}
use Rattle.hd_usda.specs.grammar.Metadata.{metadata}
use Rattle.hd_tokens.specs.Properties.{attribute_kind_of, is_used, is_target_name}
use Rattle.hd_usda.specs.used.Targets.{targets}
use Rattle.hd_usda.specs.grammar.NameSet.{new_name}
use Rattle.hd_usda.specs.grammar.Header.{list_op, past_modifiers, pname}
use Rattle.hd_usda.specs.grammar.Kept.{PrimProperties, with_value}
use Rattle.hd_usda.specs.declared.grammar.rule.PropertyRule.{PropertyRule}
use Rattle.hd_usda.specs.grammar.Rule.{is_for_use, before_value}
use Rattle.hd_usda.specs.grammar.Attribute.{attribute}

-- ["=" targets] of a relationship that is used or not
unfoldable pub relation_value : Bool → List ℕ → PrimProperties → Form PrimProperties
relation_value used name body ts =
    if used && is Equals ts then (targets (rest ts) >>= λ t. Ok (with_value body (record { name = name; value = Paths t.0 }), t.1))
    else (some_value ts >>= λ u. Ok (body, u))

-- the name of a relationship is left out
abbrev pub is_misnamed_relation : Bool → List ℕ → Bool
is_misnamed_relation listed name = is_used (attribute_kind_of name) || (listed && is_target_name name)

-- pname ["=" value] [meta], after the `rel`
unfoldable pub relation : PropertyRule → Bool → PrimProperties → Form PrimProperties
relation rule listed body ts = do
  p ← pname ts
  seen ← new_name (is_for_use rule && is_misnamed_relation listed p.0.name) p.0.name p.0.line body.properties
  u ← before_value rule p.1
  r ← relation_value (is_for_use rule && is_target_name p.0.name) p.0.name (record body { properties = seen }) u
  end ← metadata r.1
  Ok (r.0, end)

-- relation or attribute after the list op and the modifiers
unfoldable pub relation_or_attribute : PropertyRule → Bool → PrimProperties → Form PrimProperties
relation_or_attribute rule listed body ts = if is_word (codes "rel") ts then relation rule listed body (rest ts) else attribute rule listed body ts

-- property = [listop] ["custom"] ["uniform" | "varying"] (relation | attribute)
unfoldable pub property : PropertyRule → PrimProperties → Form PrimProperties
property rule body ts = do
  l ← list_op ts
  relation_or_attribute rule l.0 body (past_modifiers l.1)
