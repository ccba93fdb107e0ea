-- A set of locators is the list of its members.
use Rattle.std.specs.Prelude.{◌≡◌, Bool, false, not, if◌then◌else◌, List, [], ◌∷◌, ◌++◌, filter}
use Rattle.std.specs.List.{list_any}
use Rattle.hd_path.specs.Paths.{is_prefix}
use Rattle.hd_tokens.specs.Locators.{Locator}
use Rattle.hd_value.specs.Locators.{intersects}

-- the members, each once, in the order in which they came in
abbrev pub LocatorSet : Type 0
LocatorSet = List Locator

-- whether a member intersects the locator
abbrev pub touches : LocatorSet → Locator → Bool
touches set at = list_any (λ member. intersects member at) set

-- whether a member is a prefix of the locator
abbrev pub covers : LocatorSet → Locator → Bool
covers set at = list_any (λ member. is_prefix member at) set

-- the set with a locator in place of the members that begin with it
abbrev pub with_locator : LocatorSet → Locator → LocatorSet
with_locator set at = if covers set at then set else filter (λ member. not (is_prefix at member)) set ++ at ∷ []

-- no member begins with another
abbrev pub IsApart : LocatorSet → Type 0
IsApart [] = Unit {0}
IsApart (member ∷ members) = (touches members member ≡ false) × IsApart members
