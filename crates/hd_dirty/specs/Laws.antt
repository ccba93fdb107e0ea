-- What follows from the definitions.
use Rattle.std.specs.Prelude.{◌≡◌, ℕ, true, ◌&&◌, ◌||◌, List, Contains}
use Rattle.std.specs.Int.RustNames.{bit_or}
use Rattle.hd_path.specs.Names.{Name}
use Rattle.hd_path.specs.Paths.{is_prefix}
use Rattle.hd_tokens.specs.Locators.{Locator}
use Rattle.hd_value.specs.declared.groups.Group.{Group}
use Rattle.hd_value.specs.Groups.{locator_of_group}
use Rattle.hd_value.specs.LocatorSets.{touches}
use Rattle.hd_dirty.specs.Bits.{contains, has}
use Rattle.hd_dirty.specs.Kinds.{all_of, bits_of}

-- the bits that a set of locators reaches are among all bits of the kind
abbrev pub WithinAll : Type 0
WithinAll = (kind : Name) (set : List Locator) → contains (all_of kind) (bits_of kind set) ≡ true

-- the bits of a group are reached exactly where the kind has them and the set intersects the group's locator
abbrev pub OfReachedGroups : Type 0
OfReachedGroups = (kind : Name) (set : List Locator) (group : Group) → has (bits_of kind set) group ≡ (has (all_of kind) group && touches set (locator_of_group group))

-- a set that intersects what either of two sets intersects reaches the bits of both
abbrev pub UnionReachesBoth : Type 0
UnionReachesBoth =
    (kind : Name) (set one other : List Locator) → ((at : Locator) → touches set at ≡ (touches one at || touches other at))
    → bits_of kind set ≡ bit_or (bits_of kind one) (bits_of kind other)

-- a member of the set above a group's locator reaches the group's bit, where the kind has it
abbrev pub GroupBelowIsReached : Type 0
GroupBelowIsReached =
    (kind : Name) (set : List Locator) (at : Locator) (group : Group) → Contains set at → is_prefix at (locator_of_group group) ≡ true
    → has (bits_of kind set) group ≡ has (all_of kind) group

-- the bit of a group is in a union exactly where it is in one of the sets
abbrev pub UnionHasBoth : Type 0
UnionHasBoth = (bits others : ℕ) (group : Group) → has (bit_or bits others) group ≡ (has bits group || has others group)
