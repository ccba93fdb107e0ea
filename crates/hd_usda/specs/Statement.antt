-- One property with its value, as the text of a script has it.
use Rattle.std.specs.Prelude.{ℕ, List, [], ◌∷◌, Option, Some, None, Result, Ok, Err, if◌then◌else◌, codes}
use Rattle.hd_lexer.specs.declared.lexer.Kind.TheVariants.{End}
use Rattle.hd_layer.specs.declared.fault.LayerWhy.TheVariants.{Syntax, LeftOut}
use Rattle.hd_layer.specs.declared.spec.Property.{Property}
use Rattle.hd_lexer.specs.Lexing.{Tokens, tokens_from}
use Rattle.hd_usda.specs.declared.grammar.rule.PropertyRule.TheVariants.{Assigned}
use Rattle.hd_usda.specs.reading.Cursor.{◌>>=◌, Fault, Past, is, is_word, fault_at}
use Rattle.hd_usda.specs.grammar.Kept.{no_properties}
use Rattle.hd_usda.specs.grammar.Property.{property}

-- no token is left
unfoldable pub ends : Past
ends ts = if is End ts then Ok ts else Err (fault_at ts Syntax)

-- the first property, if there is one
abbrev pub first_of : List Property → Option Property
first_of [] = None
first_of (p ∷ ps) = Some p

-- a property of a prim with "=" after its name, and the end
unfoldable pub statement : Tokens → Result (Option Property) Fault
statement ts =
    if is_word (codes "variantSet") ts then Err (fault_at ts LeftOut)
    else (do
      b ← property Assigned no_properties ts
      end ← ends b.1
      Ok (first_of b.0.values))

-- a script has its property on one line
abbrev pub on_one_line : {A : Type 0} → Result A Fault → Result A Fault
on_one_line (Ok x) = Ok x
on_one_line (Err fault) = Err (record fault { line = 1 })

-- the used property that the text spells, none where it is not used, or the first fault
unfoldable pub reads_property : List ℕ → Result (Option Property) Fault
reads_property text = on_one_line (statement (tokens_from 1 text))
