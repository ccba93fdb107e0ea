-- What is in a container.
use Rattle.std.specs.Prelude.{List, [], ◌∷◌, Option, Some, None}
use Rattle.std.specs.FinMap.{get, entries}
use Rattle.hd_tokens.specs.Locators.{Locator}
use Rattle.hd_value.specs.declared.value.Value.{Value}
use Rattle.hd_value.specs.declared.container.Source.{Source}
use Rattle.hd_value.specs.declared.container.Source.TheVariants.{Inner, Leaf}
use Rattle.hd_value.specs.Maps.{Map, below}

-- a container that has entries
abbrev pub inner_if_filled : List (Locator × Value) → Map → Option Source
inner_if_filled [] m = None
inner_if_filled (e ∷ es) m = Some (Inner m)

-- the value, or else the container
abbrev pub leaf_or_inner : Option Value → Map → Option Source
leaf_or_inner (Some value) inner = Some (Leaf value)
leaf_or_inner None inner = inner_if_filled (entries inner) inner

-- what is at a locator: a value, or else the values below it
abbrev pub lookup : Map → Locator → Option Source
lookup m [] = None
lookup m (token ∷ at) = leaf_or_inner (get m (token ∷ at)) (below m (token ∷ at))
