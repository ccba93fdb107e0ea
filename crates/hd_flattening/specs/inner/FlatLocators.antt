-- The locators of the values of a flat container.
use Rattle.std.specs.Prelude.{◌≢◌, Bool, List, [], ◌∷◌, ◌++◌, map, Option, Some, None, IsTrue}
use Rattle.std.specs.Cmp.Lexicographic.{pointwise}
use Rattle.std.specs.FinMap.{get}
use Rattle.std.specs.List.{list_any, fold}
use Rattle.std.specs.Option.{option_map}
use Rattle.hd_path.specs.Paths.{Path}
use Rattle.hd_tokens.specs.Locators.{Locator}
use Rattle.hd_value.specs.declared.value.Value.{Value}
use Rattle.hd_value.specs.declared.value.Value.TheVariants.{Paths}
use Rattle.hd_path.specs.Names.{is_same}
use Rattle.hd_value.specs.Maps.{Map, set_at}
use Rattle.hd_value.specs.Schema.{Row, passed_rows, instanced_by_row, flattened_rows}

-- the locators of the rows of a table
abbrev pub locators_of : List Row → List Locator
locators_of rows = map (λ (row : Row). row.0) rows

-- those at which flattening puts values of its own
abbrev pub own_locators : List Locator
own_locators = locators_of flattened_rows

-- those whose values pass
abbrev pub passed_locators : List Locator
passed_locators = locators_of passed_rows ++ locators_of (instanced_by_row ∷ [])

abbrev pub flat_locators : List Locator
flat_locators = own_locators ++ passed_locators

-- whether the locator is one of these
abbrev pub is_among : List Locator → Locator → Bool
is_among locators at = list_any (λ own. pointwise is_same at own) locators

-- each value is at one of the locators
abbrev pub IsWithin : List Locator → Map → Type 0
IsWithin locators m = (at : Locator) → get m at ≢ None → IsTrue (is_among locators at)

-- the map with a value at a locator, where there is one
abbrev pub with_value : Map → Locator → Option Value → Map
with_value m at None = m
with_value m at (Some value) = set_at m at value

-- the map with what another one has at a locator
abbrev pub with_passed : Map → Map → Locator → Map
with_passed prim m at = with_value m at (get prim at)

-- the map with what passes of another one
abbrev pub with_all_passed : Map → Map → Map
with_all_passed prim m = fold (with_passed prim) m passed_locators

-- a binding of one path, where there is one
abbrev pub binding_value : Option Path → Option Value
binding_value path = option_map (λ p. Paths (p ∷ [])) path
