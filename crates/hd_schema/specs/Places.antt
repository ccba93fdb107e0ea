-- Where the values of properties are.
use Rattle.std.specs.Prelude.{Bool, false, [], ◌∷◌, Option, Some, None}
use Rattle.std.specs.Option.{option_map_or}
use Rattle.std.specs.Str.{bytes_eq}
use Rattle.std.specs.Cmp.Lexicographic.{pointwise}
use Rattle.hd_path.specs.Names.{Name}
use Rattle.hd_value.specs.LocatorSets.{LocatorSet}
use Rattle.hd_tokens.specs.Locators.{Locator}
use Rattle.hd_tokens.specs.Properties.{locator_of}

-- a locator alone in a set, or the empty set
abbrev pub set_of : Option Locator → LocatorSet
set_of (Some at) = at ∷ []
set_of None = []

-- the locator of the used property of this name, and none for another name
abbrev pub locators_of : Name → LocatorSet
locators_of name = set_of (locator_of name)

-- whether the two locators are one
abbrev pub is_same_place : Locator → Locator → Bool
is_same_place = pointwise bytes_eq

-- whether the value of the property of this name is at the locator
abbrev pub is_at : Name → Locator → Bool
is_at name at = option_map_or (λ own. is_same_place own at) (locator_of name) false
