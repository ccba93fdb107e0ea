-- What a prim has of its properties.
use Rattle.std.specs.Prelude.{List, [], ◌∷◌, ◌++◌}
use Rattle.std.specs.FinSet.{empty}
use Rattle.hd_layer.specs.declared.spec.Property.{Property}
use Rattle.hd_usda.specs.grammar.NameSet.{NameSet}

-- what a prim has so far: the names of its properties with their tails, and the used ones
pub record PrimProperties : Type 0 where
  pub properties : NameSet
  pub values : List Property

-- nothing is kept yet
abbrev pub no_properties : PrimProperties
no_properties = record { properties = empty; values = [] }

abbrev pub with_value : PrimProperties → Property → PrimProperties
with_value body property = record body { values = body.values ++ property ∷ [] }
