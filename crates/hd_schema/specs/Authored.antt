-- The values that the properties of a prim author.
use Rattle.std.specs.Prelude.{◌≡◌, List, Option, Some, None, IsSomeAnd, find}
use Rattle.std.specs.FinMap.{get}
use Rattle.std.specs.Option.{option_and_then}
use Rattle.hd_layer.specs.declared.spec.Property.{Property}
use Rattle.hd_tokens.specs.Locators.{Locator}
use Rattle.hd_tokens.specs.Properties.{locator_of}
use Rattle.hd_value.specs.declared.value.Value.{Value}
use Rattle.hd_value.specs.Maps.{Map, set_at}
use Rattle.hd_schema.specs.Places.{is_at}
use Rattle.hd_schema.specs.Values.{value_of}

-- what the value of a property becomes
abbrev pub property_value : Property → Option Value
property_value p = value_of p.name p.value

-- at a locator, the value of the property whose locator it is
abbrev pub authored_at : List Property → Locator → Option Value
authored_at properties at = option_and_then property_value (find (λ p. is_at p.name at) properties)

-- the property has a locator, and its value is there
abbrev pub HasValueOf : Map → Property → Type 0
HasValueOf m p = IsSomeAnd (locator_of p.name) (λ at. IsSomeAnd (property_value p) (λ value. get m at ≡ Some value))

-- the map with a value at a locator, where there are both
abbrev pub set_if_both : Map → Option Locator → Option Value → Map
set_if_both m (Some at) (Some value) = set_at m at value
set_if_both m (Some at) None = m
set_if_both m None value = m

-- the map with the value of a property at its locator
abbrev pub with_property : Map → Property → Map
with_property m p = set_if_both m (locator_of p.name) (property_value p)
