-- What the repetitions of the grammar's definitions are, and what a prim has of one item or property.
use Rattle.std.specs.Prelude.{◌≡◌, ℕ, ◌<◌, List, [], ◌∷◌, Option, None, Some, Result, Ok, Err, Bool, true, false, if◌then◌else◌, codes}
use Rattle.hd_lexer.specs.declared.lexer.Kind.{Kind}
use Rattle.hd_lexer.specs.declared.lexer.Kind.TheVariants.{Equals}
use Rattle.hd_layer.specs.declared.spec.Property.{Property}
use Rattle.hd_lexer.specs.Lexing.{Tokens}
use Rattle.hd_usda.specs.reading.Cursor.{◌>>=◌, Fault, Past, Form, is, is_word, rest, count}
use Rattle.hd_usda.specs.reading.Loops.{past, past_by, all, all_by, chain, chain_by}
use Rattle.hd_usda.specs.grammar.Header.{list_op, past_modifiers, own_type, pname}
use Rattle.hd_usda.specs.declared.grammar.rule.PropertyRule.TheVariants.{Used}
use Rattle.hd_usda.specs.grammar.Property.{property}
use Rattle.hd_usda.specs.grammar.Kept.{no_properties}
use Rattle.hd_usda.specs.grammar.Prims.{LayerBuilder, PrimForm, new_scope, item}
use Rattle.hd_usda.specs.Statement.{ends}

-- form* close is the closing token, or one form and form* close again, and each bound beyond the tokens that are left gives the same
pub record PastRepeats (close : Kind) (form : Past) : Type 0 where
  pub again : (ts : Tokens) → past close form ts ≡ (if is close ts then Ok (rest ts) else (form ts >>= past close form))
  pub any_bound : (n : ℕ) (ts : Tokens) → count ts < n → past_by close form n ts ≡ past close form ts

-- the same with what was read so far
pub record AllRepeats {S : Type 0} (close : Kind) (form : S → Form S) : Type 0 where
  pub again : (s : S) (ts : Tokens) → all close form s ts ≡ (if is close ts then Ok (s, rest ts) else (form s ts >>= λ r. all close form r.0 r.1))
  pub any_bound : (n : ℕ) (s : S) (ts : Tokens) → count ts < n → all_by close form n s ts ≡ all close form s ts

-- (separator form)* is nothing, or a separator, one form and (separator form)* again
pub record ChainRepeats {S : Type 0} (separator : Kind) (form : S → Form S) : Type 0 where
  pub again : (s : S) (ts : Tokens) → chain separator form s ts ≡ (if is separator ts then (form s (rest ts) >>= λ r. chain separator form r.0 r.1) else Ok (s, ts))
  pub any_bound : (n : ℕ) (s : S) (ts : Tokens) → count ts < n → chain_by separator form n s ts ≡ chain separator form s ts

-- the values of a prim that has these tokens alone, where they are one item
unfoldable pub item_values : PrimForm → LayerBuilder → Tokens → Result (List Property) Fault
item_values prim builder ts = do
  r ← item prim true (new_scope builder) ts
  u ← ends r.1
  Ok r.0.body.values

-- the property, if there is one
abbrev pub values_of : Option Property → List Property
values_of None = []
values_of (Some property) = property ∷ []

-- the tokens after the name of a relationship or an attribute
unfoldable pub after_own_name : Past
after_own_name ts = if is_word (codes "rel") ts then (pname (rest ts) >>= λ p. Ok p.1) else (own_type ts >>= λ t. pname t.1 >>= λ p. Ok p.1)

-- the tokens after the name of a property
unfoldable pub after_property_name : Past
after_property_name ts = list_op ts >>= λ l. after_own_name (past_modifiers l.1)

abbrev pub begins_with_equals : Result Tokens Fault → Bool
begins_with_equals (Ok ts) = is Equals ts
begins_with_equals (Err fault) = false

-- a property with "=" after its name
abbrev pub has_equals : Tokens → Bool
has_equals ts = begins_with_equals (after_property_name ts)

-- the values of a prim that has these tokens alone, where they are one property
unfoldable pub property_values : Tokens → Result (List Property) Fault
property_values ts = do
  b ← property Used no_properties ts
  u ← ends b.1
  Ok b.0.values

-- the property that was read, if there is one, or the fault
abbrev pub as_values : Result (Option Property) Fault → Result (List Property) Fault
as_values (Ok property) = Ok (values_of property)
as_values (Err fault) = Err fault
