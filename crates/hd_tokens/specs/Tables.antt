-- What the constants of the code mean.
use Rattle.std.specs.Prelude.{List, map}
use Rattle.std.specs.Borrow.{Bor}
use Rattle.hd_tokens.specs.declared.properties.UsedProperty as code
use Rattle.hd_tokens.specs.declared.properties.OpKind as kind
use Rattle.hd_path.specs.Names.{Name}
use Rattle.hd_tokens.specs.Properties.{UsedProperty, OpKind}

-- the texts of some words
abbrev pub texts : List (Bor Name) → List Name
texts words = map (λ word. word.now) words

-- a row of the table of used properties
abbrev pub property_in : code.UsedProperty → UsedProperty
property_in p = record { name = p.name.now; content = p.content; locator = texts p.locator.now }

-- a row of the table of ops
abbrev pub op_kind_in : kind.OpKind → OpKind
op_kind_in k = record { name = k.name.now; kind = k.kind }
